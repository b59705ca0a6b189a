-- The definitions that the promises of `item_turns` cite.
-- Assumes nothing.
pub mod Lent
pub mod Leads
pub mod Turn
