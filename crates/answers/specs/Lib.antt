pub mod Outcome
pub mod Report
pub mod Kept
pub mod Filled
