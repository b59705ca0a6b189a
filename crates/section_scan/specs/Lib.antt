pub mod FoundId
pub mod FoundTime
pub mod Sections
