pub mod Full
pub mod Info
