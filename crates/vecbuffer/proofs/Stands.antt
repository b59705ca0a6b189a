pub mod Begin
pub mod Fields
pub mod Laws
pub mod Order
pub mod Vectors
