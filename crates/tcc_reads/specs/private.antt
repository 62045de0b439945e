-- Definitions that no reader has to trust: only private functions and proofs use them.
pub mod Numbers
pub mod KeyIndices
pub mod Verdicts
pub mod Stored
pub mod Sorting
pub mod Tracings
pub mod Flat
pub mod Lists
