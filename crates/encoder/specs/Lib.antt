pub mod Going
pub mod Rule
