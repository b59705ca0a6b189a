-- The definitions that the promises of `readings` cite.
-- Assumes nothing.
pub mod Heads
pub mod Step
pub mod Whole
