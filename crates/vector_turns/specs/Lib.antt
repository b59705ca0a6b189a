-- The definitions that the promises of `vector_turns` cite.
-- Assumes nothing.
pub mod OneVector
