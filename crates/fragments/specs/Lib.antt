pub mod Counting
pub mod Going
pub mod Put
pub mod Theorems
