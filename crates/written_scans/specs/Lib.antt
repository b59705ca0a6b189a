-- Assumes nothing.
pub mod Reread
