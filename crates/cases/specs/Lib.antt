-- The definitions that the promises of `cases` cite.
-- Assumes nothing.
pub mod Cases
