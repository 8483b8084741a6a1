-- What the contracts cite.
pub mod Beats
pub mod Counts
pub mod Differences
pub mod Faults
pub mod Middles
pub mod Promises
pub mod Ranges
pub mod Sent
pub mod Sizes
pub mod Votes
