-- The definitions that the promises of `bench` cite.
-- Assumes nothing.
pub mod Bench
pub mod Demands
