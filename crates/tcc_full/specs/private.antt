-- Definitions that no reader has to trust: only private functions and proofs use them.
pub mod Framing
pub mod Noting
