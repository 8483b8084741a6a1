-- What the contracts cite.
pub mod Beats
pub mod Outcomes
pub mod Promises
pub mod Runs
