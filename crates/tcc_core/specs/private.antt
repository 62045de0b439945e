-- Definitions that no reader has to trust: only private functions and proofs use them.
pub mod Relaxing
pub mod Closing
pub mod Buckets
pub mod LinkedBuckets
pub mod Queues
pub mod Offers
pub mod Marked
pub mod Levels
pub mod Ways
