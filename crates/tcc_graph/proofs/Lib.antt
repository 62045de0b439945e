-- Lemmas on causal pairs, steps, walks, links, routes and orders. The crates above use these:
-- - Pairs: causal pairs by their test and by their kinds, steps of pairs, and the ends of pairs, steps and links
-- - Walking: walks joined, split and longer by a step
-- - Linking: what links and routes cost; routes joined, split and longer by a link
-- - Leveled: what holds at one level and so at the other
-- - Upward: every cycle, begun at its lowest number, is a route over numbers from there upward
-- - Tied: the comparisons of steps and links are total orders, and what ties is the same
-- - Numberings: at which index numbers are in an order
-- - Kept: what a map of numbers keeps of pairs, it keeps of walks, reasons, links and cycles
-- - NameLemmas: names in lists: found by a test, and by index in a sorted list
-- - Sessions: which transactions are between two of a session, and which is right before one
-- - KeysLemmas: which names are keys
-- - SortedKeys: the keys are in byte order
-- - OwnKeys: names in order, each of which is used, are the keys
-- - WriterLemmas: what is read is a key and among them, and who its writers are
-- - NamedReadings: readings by the indices of keys are readings by their names
-- - Worked: small histories worked out by hand
-- The others serve the proofs of this crate. Lemmas on lists, truth values and results alone are in tcc_txn's proofs/Lists.
pub mod Ascending
pub mod GraphLemmas
pub mod GroupedLemmas
pub mod GroupedRowsLemmas
pub mod IndexedLemmas
pub mod Kept
pub mod KeyTableLemmas
pub mod KeysLemmas
pub mod LaterLemmas
pub mod StepLemmas
pub mod Led
pub mod Leveled
pub mod Linking
pub mod NameLemmas
pub mod NamedLemmas
pub mod NamedReadings
pub mod Numberings
pub mod Pairs
pub mod RouteLemmas
pub mod Sessions
pub mod OwnKeys
pub mod KeptKeys
pub mod SortedKeys
pub mod TableLemmas
pub mod Tied
pub mod Upward
pub mod Walking
pub mod Stepping
pub mod Worked
pub mod WriterLemmas
