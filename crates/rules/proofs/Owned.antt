pub mod Latest
pub mod Laws
pub mod Mistakes
pub mod Tracks
