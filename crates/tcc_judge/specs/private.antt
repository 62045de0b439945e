-- Definitions that no reader has to trust: only private functions and proofs use them.
pub mod Least
pub mod Positions
pub mod NextWriters
pub mod Readings
pub mod Behind
pub mod Blocks
pub mod Contradicted
pub mod Sources
pub mod Members
pub mod Decoding
pub mod Singles
pub mod Onward
pub mod Taking
pub mod Picking
