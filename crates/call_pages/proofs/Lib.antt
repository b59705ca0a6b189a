pub mod Crowded
pub mod Exact
pub mod Pages
