-- Definitions that no reader has to trust: only private functions and proofs use them.
pub mod Runs
pub mod Groups
pub mod Readings
pub mod Weights
pub mod WeightsFrom
pub mod Pairs
pub mod Searches
pub mod Positions
pub mod Coming
pub mod Judged
pub mod Latest
pub mod SinglePairs
