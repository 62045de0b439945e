-- Needing   what links need is listed, and what is listed they need
-- NumberLists the numbers of needs, each once
-- Placing   where a number stands among numbers that rise
-- Told      links in the numbers of a slice, and back, are what they were
-- Lasting   a snapshot with one more transaction of its last session
-- Keeping   what is kept of operations
-- Lawful    what is kept of lawful operations is lawful
-- Named     names never fall by number, and a cut is made at its end
-- Ranging   the needs of one number, between two partition points
-- Spare     of a cut nothing is spare
-- CarriedOver a map of numbers that keeps pairs and writers carries each link
-- Recorded  the records of one session more
-- From snapshots to links where a snapshot goes on, over Kept of tcc_graph, and over Elements, Placed, Numbered, Written, Sliced:
-- Continued  a snapshot that continues another has each of its transactions, by name and place
-- Searching  a search for a label, one after the other
-- Labels     no two transactions have one label
-- Meeting    the index of each transaction in a snapshot that continues its own
-- Growth     a snapshot that continues another has it as a slice
-- GrowthKeeps so it keeps its links, cycles and anomalies
-- OneByOne   links, as they are looked at one by one
-- Worked     an anomaly in a snapshot that goes on, where numbers move
pub mod Needing
pub mod NumberLists
pub mod Placing
pub mod Told
pub mod Elements
pub mod Faultless
pub mod Fits
pub mod Freed
pub mod Lasting
pub mod Keeping
pub mod Lawful
pub mod Beyond
pub mod Named
pub mod Nothing
pub mod Numbered
pub mod Once
pub mod OwnLinks
pub mod PartsOf
pub mod Passing
pub mod Placed
pub mod Ranging
pub mod Sliced
pub mod Spare
pub mod Whole
pub mod Written
pub mod CarriedOver
pub mod Recorded
pub mod Lefts
pub mod Continued
pub mod Growth
pub mod GrowthKeeps
pub mod Labels
pub mod Meeting
pub mod OneByOne
pub mod Searching
pub mod Worked
