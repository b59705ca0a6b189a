-- The invariant of a loop that fills one output: `Filling`, with its laws; by the steps of a definition; by fuel.
-- Assumes nothing.
pub mod Filling
