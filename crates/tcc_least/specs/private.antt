-- Definitions that no reader has to trust: only private functions and proofs use them.
pub mod Building
pub mod Places
pub mod Returns
pub mod Rounds
