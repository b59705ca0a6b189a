pub mod Leb
pub mod Leb128
pub mod Shortest
