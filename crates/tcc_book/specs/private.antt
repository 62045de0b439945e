-- Definitions that no reader has to trust: only private functions and proofs use them.
pub mod BookStorage
pub mod Copies
pub mod Lesser
