-- The definitions that the promise of `value_readings` cites.
-- Assumes nothing.
pub mod Scanner
pub mod Values
