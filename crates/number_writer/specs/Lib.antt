-- The definitions that the promises of `number_writer` cite.
-- Assumes nothing.
pub mod Code
pub mod Ended
pub mod Little
pub mod Put
pub mod Written
