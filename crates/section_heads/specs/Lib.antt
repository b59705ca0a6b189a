-- The definitions that the promises of `section_heads` cite.
-- Assumes nothing.
pub mod Heads
