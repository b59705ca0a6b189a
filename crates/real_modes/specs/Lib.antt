-- Section reading in the two modes of reals: begin at `Modes`.
-- Assumes nothing.
pub mod Blank
pub mod Alike
pub mod Modes
