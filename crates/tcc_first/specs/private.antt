-- Definitions that no reader has to trust: only private functions and proofs use them.
pub mod Picks
pub mod Starts
pub mod Ways
