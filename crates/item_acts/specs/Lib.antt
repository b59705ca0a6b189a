-- The definitions that the promises of `item_acts` cite, and what readings share.
-- Assumes nothing.
pub mod Moves
pub mod Acts
