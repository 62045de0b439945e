-- Definitions that no reader has to trust: only private functions and proofs use them.
pub mod Writing
pub mod LineWords
pub mod Inputs
pub mod Stages
pub mod Collecting
pub mod Showing
pub mod Onward
