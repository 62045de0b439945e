-- Definitions that no reader has to trust: only private functions and proofs use them.
pub mod Firsts
pub mod Settled
pub mod Listed
pub mod Spells
pub mod Circling
pub mod Needed
pub mod Seen
pub mod Called
pub mod Calling
