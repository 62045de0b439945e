pub mod Positions
pub mod Asked
pub mod Linked
mod JudgedLinks
pub mod KnownLemmas
pub mod Decisions
pub mod RightLinks
