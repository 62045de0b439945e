-- Definitions that no reader has to trust: only private functions and proofs use them.
pub mod Numbered
pub mod Rows
pub mod Links
pub mod Tables
pub mod Writers
pub mod Delivering
pub mod Deciding
pub mod LedgerSteps
pub mod Operations
pub mod Values
pub mod Lines
pub mod Keeping
pub mod Arrivals
pub mod Gaps
