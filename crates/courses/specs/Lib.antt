-- Assumes nothing.
pub mod Course
pub mod Ruled
pub mod Benched
pub mod Written
pub mod GivenBack
