-- Definitions that no reader has to trust: only private functions and proofs use them.
pub mod Marks
pub mod Walking
pub mod Walks
pub mod Lowering
pub mod IntoInit
pub mod Stretches
pub mod Pricing
pub mod Feedback
pub mod Buckets
pub mod Tiles
pub mod Closings
pub mod Passes
