-- The definitions that the promises of `step_ends` cite.
-- Assumes nothing.
pub mod Seen
pub mod Steps
