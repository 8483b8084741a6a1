-- What the contracts cite.
pub mod Laws
pub mod Ranges
pub mod Rows
pub mod Tables
pub mod Vectors
