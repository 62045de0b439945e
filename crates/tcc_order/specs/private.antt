-- Definitions that no reader has to trust: only private functions and proofs use them.
pub mod Numbering
pub mod Lasts
pub mod Held
pub mod Precedences
pub mod Placed
pub mod Queued
pub mod Chains
pub mod CausalLinks
pub mod Sweeps
pub mod ByKey
pub mod News
pub mod Blocks
pub mod Found
pub mod AtomicLinks
