pub mod Lines
pub mod Listing
pub mod Rows
pub mod Unique
