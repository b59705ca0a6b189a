pub mod Next
pub mod Stream
