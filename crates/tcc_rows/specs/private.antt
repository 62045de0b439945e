-- Definitions that no reader has to trust: only private functions and proofs use them.
pub mod Failing
pub mod Drafts
pub mod StagesAfter
pub mod Stages
pub mod Limited
pub mod Passing
pub mod Seating
pub mod Words
pub mod ControlRecords
pub mod Unread
pub mod Waiting
