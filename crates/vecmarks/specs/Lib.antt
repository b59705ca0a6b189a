pub mod Info
pub mod Full
