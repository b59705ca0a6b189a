pub mod Fixed
pub mod Marks
