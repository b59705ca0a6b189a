pub mod Bytes
pub mod Code
pub mod Laws
