-- The definitions that the promises of `change_readings` cite.
-- Assumes nothing.
pub mod Records
