-- What the contracts cite.
pub mod Answers
