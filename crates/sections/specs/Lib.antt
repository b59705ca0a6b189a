-- The definitions that the promises of `sections` cite.
-- Assumes nothing.
pub mod Item
