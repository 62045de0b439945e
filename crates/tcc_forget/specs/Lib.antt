pub mod Covers
pub mod Cases
pub mod Sweeps
pub mod Counters
pub mod Slots
pub mod private
