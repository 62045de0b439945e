pub mod Delivered
pub mod Ledger
pub mod Newest
pub mod Verdicts
pub mod private
