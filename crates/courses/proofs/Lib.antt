pub mod Benched
pub mod Course
pub mod GivenBack
pub mod Ruled
pub mod Written
