-- Lemmas that several proofs share, here and in the crates above.
pub mod Alarming
pub mod Anys
pub mod Faulty
pub mod Outsides
pub mod Persisting
pub mod Same
pub mod Voting
