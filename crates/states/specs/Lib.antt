pub mod Kind
pub mod Letters
pub mod Field
pub mod Packed
