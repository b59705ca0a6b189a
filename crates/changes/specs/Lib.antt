pub mod Change
pub mod Changes
