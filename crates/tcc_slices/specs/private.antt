-- Definitions that no reader has to trust: only private functions and proofs use them.
pub mod Carrying
pub mod Cutting
pub mod Fitting
pub mod Needing
