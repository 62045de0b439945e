mod Repeated
mod WordOrder
pub mod EqualLists
pub mod Growing
pub mod GrownSnapshot
pub mod Lists
pub mod Nesting
pub mod PackedOps
pub mod Parts
pub mod SessionEntries
pub mod SnapshotFaults
pub mod SortedParts
pub mod StoredSnapshot
pub mod NumberedNames
pub mod NumberedKeys
