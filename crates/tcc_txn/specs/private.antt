-- Definitions that no reader has to trust: only private functions and proofs use them.
pub mod Stored
pub mod Forms
pub mod Packing
pub mod SnapshotStorage
pub mod Storing
pub mod Symbols
