pub mod Changes
pub mod Stands
