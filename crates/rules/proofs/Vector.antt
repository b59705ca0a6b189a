pub mod Apart
pub mod Laws
