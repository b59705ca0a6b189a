-- Assumes nothing.
pub mod Rooms
pub mod Gathered
pub mod Costs
pub mod Sizes
pub mod Readings
pub mod Calls
