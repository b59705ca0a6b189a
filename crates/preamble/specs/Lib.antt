pub mod Going
pub mod Item
pub mod Opened
pub mod Preamble
