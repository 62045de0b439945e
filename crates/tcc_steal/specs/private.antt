-- Definitions that no reader has to trust: only private functions and proofs use them.
pub mod Floors
pub mod StartQueues
pub mod Working
pub mod Fitting
pub mod Making
