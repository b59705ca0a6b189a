pub mod Check
pub mod Checks
pub mod Good
pub mod Layout
pub mod Lists
