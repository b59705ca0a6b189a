pub mod Going
pub mod Writer
