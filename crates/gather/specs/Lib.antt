pub mod Begin
pub mod Follows
pub mod Makes
pub mod Memory
pub mod Quiet
pub mod Run
pub mod Writes
