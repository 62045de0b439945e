-- Definitions that no reader has to trust: only private functions and proofs use them.
pub mod Counts
pub mod Grouped
pub mod GroupedRows
pub mod ReadTables
pub mod Marks
pub mod KeyRows
pub mod Graphs
