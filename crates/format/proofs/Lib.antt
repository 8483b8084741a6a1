-- Lemmas that several proofs share, here and in the crates above.
pub mod Answers
pub mod Back
pub mod Chains
pub mod Checks
pub mod Designs
pub mod Exact
pub mod OneRecording
pub mod Ranged
pub mod Same
pub mod Sets
pub mod Sheets
pub mod Spelling
pub mod Tables
pub mod Unique
pub mod Written
