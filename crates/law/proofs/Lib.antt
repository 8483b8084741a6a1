-- Lemmas on rounding.
pub mod Rounding
