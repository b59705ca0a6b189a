-- The definitions that the promises of `told` cite.
-- Assumes nothing.
pub mod Told
