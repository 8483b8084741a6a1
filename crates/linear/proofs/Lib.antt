-- Lemmas that several proofs share, here and in the crates above.
pub mod Cells
pub mod Made
pub mod Products
pub mod Ring
pub mod Small
pub mod SumLaws
