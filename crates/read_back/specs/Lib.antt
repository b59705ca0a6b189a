-- The definitions that the promises of `read_back` cite.
-- Assumes nothing.
pub mod Going
pub mod ReadBack
