pub mod Greedy
pub mod Circle
pub mod Kept
pub mod Within
pub mod Reached
pub mod Linked
pub mod OrderOrCycle
pub mod QueuedLemmas
pub mod ChainLemmas
pub mod Fronts
pub mod Links
pub mod EmptyRows
pub mod LastLemmas
mod Worked
mod WorkedClocks
pub mod Readings
pub mod KeptRows
pub mod NewsLemmas
pub mod Needing
pub mod BlockStart
pub mod Sweeping
pub mod ByKey
pub mod Finding
pub mod ShareLemmas
pub mod LeftOver
pub mod Stepped
pub mod Rising
pub mod Spans
