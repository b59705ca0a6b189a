pub mod Out
pub mod Put
