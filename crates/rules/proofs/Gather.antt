pub mod Echo
pub mod Firsts
pub mod Laws
pub mod Order
pub mod Own
