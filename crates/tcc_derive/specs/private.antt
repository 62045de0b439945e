-- Definitions that no reader has to trust: only private functions and proofs use them.
pub mod Rows
pub mod Buckets
pub mod CostBuckets
pub mod Closings
pub mod Classes
pub mod KeyTables
pub mod Others
pub mod Lowering
pub mod Choices
pub mod Sources
pub mod LeadingBack
