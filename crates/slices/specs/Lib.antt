pub mod Choice
pub mod Exit
pub mod Field
pub mod Splice
