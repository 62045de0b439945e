-- Numbered cells that were given the numbers from 1 on
-- Reached  what a search has reached by pairs, one more, and all of it
-- ReasonLemmas derived links between two transactions, by what was looked at so far
-- Retraced going back over what holds transactions back, and the links along it
-- Returned parts of a cycle that lead back, and that a least cycle has none but itself
pub mod Numbered
pub mod Reached
pub mod ReasonLemmas
pub mod Retraced
pub mod Returned
