pub mod Cycles
pub mod Decisions
pub mod Explained
pub mod private
