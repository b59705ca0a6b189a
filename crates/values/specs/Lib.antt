pub mod Read
pub mod Value
