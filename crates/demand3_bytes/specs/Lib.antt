-- Assumes nothing.
pub mod Statements
pub mod Own
pub mod Trace
pub mod Stored
pub mod Causes
