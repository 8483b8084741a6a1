-- Lemmas that several proofs share, here and in the crates above.
pub mod Exact
pub mod Frames
pub mod Going
pub mod OneRun
