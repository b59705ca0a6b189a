-- Assumes nothing.
pub mod Entry
pub mod Demands
