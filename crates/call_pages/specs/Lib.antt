-- Assumes nothing.
pub mod Exact
pub mod Crowded
pub mod Pages
