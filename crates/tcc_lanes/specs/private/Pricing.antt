-- What links among members cost, worked out from 64 of them at a time.
use Rattle.std.specs.Prelude.{ℕ, true, ◌<◌, ◌≤◌, ◌+◌, ◌*◌, ◌≡◌, ◌≢◌, ◌⊎◌, ◌↔◌, min, All, List, [], length, map, reverse, slice_index, slice_index_or, if◌then◌else◌}
use Rattle.tcc_reads.specs.History.{History, count}
use Rattle.tcc_graph.specs.Keys.{key_at, keys}
use Rattle.tcc_graph.specs.Levels.{Judged}
use Rattle.tcc_graph.specs.Links.{IsLink, IsReason, cost, link_cost, link_from, link_to}
use Rattle.tcc_graph.specs.Relations.{IsReadsPair, causal_pair}
use Rattle.tcc_graph.specs.Routes.{IsCycle, IsRoute, LinksLead}
use Rattle.tcc_graph.specs.declared.link.Link.{Link}
use Rattle.tcc_graph.specs.declared.step.Step.{Step}
use Rattle.tcc_lanes.specs.declared.words.TheConstants.{LANES}
use Rattle.tcc_lanes.specs.declared.pricing.TheConstants.{NONE}
use Rattle.tcc_lanes.specs.Among.{IsAmong}
use Rattle.tcc_lanes.specs.private.Marks.{HasLane, IsAt}

-- each transaction has the index of the member that it is; any other transaction has an index past the last
pub record AreColumns (h : History) (members : List ℕ) (columns : List ℕ) : Type 0 where
  pub long : length columns ≡ count h
  pub each : (a v : ℕ) → a < count h → v < length members → (slice_index columns a ≡ v) ↔ (slice_index members v ≡ a)

-- the reader reads a key of a lane in the word from the member of a column
abbrev pub IsMetAt : History → List ℕ → List ℕ → ℕ → ℕ → ℕ → ℕ → Type 0
IsMetAt h columns writers word reader v i =
    HasLane word i × (a : ℕ) × (k : ℕ) × (slice_index columns a ≡ v) × (k < length (keys h)) × IsReadsPair h a reader (key_at h k) × IsAt writers k i

-- one of the first readers reads it from there, and the lanes have come to that reader
abbrev pub IsMetIn : History → List ℕ → List ℕ → List ℕ → ℕ → ℕ → ℕ → Type 0
IsMetIn h columns writers reached end v i = (reader : ℕ) × (reader < end) × IsMetAt h columns writers (slice_index reached reader) reader v i

-- a value is lowered to a price where that is meant, and else unchanged
pub record IsLowered (Is : Type 0) (price : ℕ) (old : ℕ) (new : ℕ) : Type 0 where
  pub kept : new ≤ old
  pub lowered : Is → new ≤ price
  pub either : (new ≡ old) ⊎ (Is × (new ≡ price))

-- the cell of a table that has 64 lanes for each column
abbrev pub cell : ℕ → ℕ → ℕ
cell v i = v * LANES + i

-- for the lanes that start at these transactions: what derived links to the members cost, by walks of at most `longest` steps
pub record ArePrices (j : Judged) (members : List ℕ) (starts : List ℕ) (longest : ℕ) (table : List ℕ) : Type 0 where
  pub long : length table ≡ length members * LANES
  pub high : (v i : ℕ) → v < length members → i < length starts → slice_index table (cell v i) ≤ NONE
  pub sound : (v i : ℕ) → v < length members → i < length starts → slice_index table (cell v i) < NONE
      → (x : List ℕ) × (c : ℕ) × (walk : List Step) × IsReason j (slice_index starts i) (slice_index members v) x c walk
      × (length walk + 1 ≤ slice_index table (cell v i))
  pub all : (v i : ℕ) → v < length members → i < length starts → (x : List ℕ) (c : ℕ) (walk : List Step)
      → IsReason j (slice_index starts i) (slice_index members v) x c walk → length walk ≤ longest → slice_index table (cell v i) ≤ length walk + 1

-- a lane without a mark in a column's word has no price in that column
pub record AreMarked (members : List ℕ) (starts : List ℕ) (lanes : List ℕ) (table : List ℕ) : Type 0 where
  pub long : length lanes ≡ length members
  pub blank : (v i : ℕ) → v < length members → i < length starts → (IsAt lanes v i → ⊥) → slice_index table (cell v i) ≡ NONE

-- each lane is marked where a pair leads to from its start, and nowhere else
pub record ArePairsFrom (h : History) (starts : List ℕ) (pairs : List ℕ) : Type 0 where
  pub long : length pairs ≡ count h
  pub each : (v i : ℕ) → v < count h → i < length starts → IsAt pairs v i ↔ (causal_pair h (slice_index starts i) v ≡ true)

-- what links from a transaction to the members cost, for those that cost less than a limit
pub record IsPriceRow (j : Judged) (members : List ℕ) (most : ℕ) (from : ℕ) (row : List ℕ) : Type 0 where
  pub long : length row ≡ length members
  pub some : (v : ℕ) → v < length members → 1 ≤ slice_index row v
  pub high : (v : ℕ) → v < length members → slice_index row v ≤ NONE
  pub sound : (v : ℕ) → v < length members → slice_index row v < NONE
      → (l : Link) × (link_from l ≡ from) × (link_to l ≡ slice_index members v) × IsLink j l × (link_cost l ≤ slice_index row v)
  pub all : (v : ℕ) → v < length members → (l : Link) → link_from l ≡ from → link_to l ≡ slice_index members v → IsLink j l → link_cost l < most
      → slice_index row v ≤ link_cost l

-- a row for each of the first members
pub record ArePriceRows (j : Judged) (members : List ℕ) (most : ℕ) (end : ℕ) (rows : List (List ℕ)) : Type 0 where
  pub long : length rows ≡ min (length members) end
  pub each : (u : ℕ) → u < end → u < length members → IsPriceRow j members most (slice_index members u) (slice_index_or rows u [])

-- for one start: 1 where a pair leads to the member, else the price of a derived link in the table
pub record IsRowOf (h : History) (members : List ℕ) (table : List ℕ) (lane : ℕ) (from : ℕ) (row : List ℕ) : Type 0 where
  pub long : length row ≡ length members
  pub each : (v : ℕ) → v < length members
      → slice_index row v ≡ (if causal_pair h from (slice_index members v) then 1 else slice_index table (cell v lane))

-- rows were added, one for each start
pub record AreRowsOn (h : History) (members : List ℕ) (table : List ℕ) (starts : List ℕ) (end : ℕ) (old : List (List ℕ)) (new : List (List ℕ)) : Type 0 where
  pub long : length new ≡ length old + end
  pub kept : (k : ℕ) → k < length old → slice_index_or new k [] ≡ slice_index_or old k []
  pub each : (i : ℕ) → i < end → IsRowOf h members table i (slice_index starts i) (slice_index_or new (length old + i) [])

-- a table with as many rows as columns, and prices of at least 1
pub record IsTable (rows : List (List ℕ)) : Type 0 where
  pub long : (u : ℕ) → u < length rows → length (slice_index_or rows u []) ≡ length rows
  pub some : (u v : ℕ) → u < length rows → v < length rows → 1 ≤ slice_index (slice_index_or rows u []) v
  pub high : (u v : ℕ) → u < length rows → v < length rows → slice_index (slice_index_or rows u []) v ≤ NONE

-- going on from those of some members that cost `level`: no cost rises, each new one is that of a way over such a member, and none of these
-- is missing
pub record IsSettled (rows : List (List ℕ)) (level : ℕ) (Is : ℕ → Type 0) (old : List ℕ) (new : List ℕ) : Type 0 where
  pub same : length new ≡ length old
  pub kept : (v : ℕ) → v < length old → slice_index new v ≤ slice_index old v
  pub either : (v : ℕ) → v < length old → (slice_index new v ≡ slice_index old v)
      ⊎ ((u : ℕ) × (u < length old) × (slice_index old u ≡ level) × (slice_index new v ≡ level + slice_index (slice_index_or rows u []) v))
  pub over : (u v : ℕ) → Is u → u < length old → v < length old → slice_index old u ≡ level
      → slice_index new v ≤ level + slice_index (slice_index_or rows u []) v

-- a cycle from a member, of links among the members, costs less than a limit
abbrev pub HasReturn : Judged → List ℕ → ℕ → ℕ → Type 0
HasReturn j members most s = (links : List Link) × IsCycle j (slice_index members s) links × All (IsAmong members) links × (cost links < most)

-- what the cheapest of these cycles costs, if that is less than the limit; else the limit
pub record IsLeastReturn (j : Judged) (members : List ℕ) (most : ℕ) (s : ℕ) (least : ℕ) : Type 0 where
  pub within : least ≤ most
  pub none : HasReturn j members least s → ⊥
  pub some : least < most → HasReturn j members (least + 1) s

-- what it costs to come from one member to each, as far as that is settled
pub record IsReached (j : Judged) (members : List ℕ) (rows : List (List ℕ)) (s : ℕ) (level : ℕ) (costs : List ℕ) : Type 0 where
  pub same : length costs ≡ length members
  pub sound : (v : ℕ) → v < length members → slice_index costs v < NONE
      → (links : List Link) × IsRoute j (slice_index members s) (slice_index members v) links × All (IsAmong members) links × (cost links ≤ slice_index costs v)
  pub first : (v : ℕ) → v < length members → slice_index costs v ≤ slice_index (slice_index_or rows s []) v
  pub over : (u v : ℕ) → u < length members → v < length members → slice_index costs u < level
      → slice_index costs v ≤ slice_index costs u + slice_index (slice_index_or rows u []) v

-- what a link from one member to another costs, as the rows have it
abbrev pub price_of : List (List ℕ) → ℕ → ℕ → ℕ
price_of rows u v = slice_index (slice_index_or rows u []) v

-- the cost of v is that of a link from the start; or it is the cost of some member plus that of a link from there
abbrev pub IsAttained : List (List ℕ) → ℕ → List ℕ → ℕ → Type 0
IsAttained rows s costs v =
    (slice_index costs v ≡ price_of rows s v)
    ⊎ ((u : ℕ) × (u < length rows) × (slice_index costs u + price_of rows u v ≡ slice_index costs v))

-- the same, where that member is settled
abbrev pub IsSettledFrom : List (List ℕ) → ℕ → ℕ → List ℕ → ℕ → Type 0
IsSettledFrom rows s level costs v =
    (slice_index costs v ≡ price_of rows s v)
    ⊎ ((u : ℕ) × (u < length rows) × (slice_index costs u < level) × (slice_index costs u + price_of rows u v ≡ slice_index costs v))

-- links lead on from a member to the start, and the transactions at which they begin were read off in reverse. The cost of the member and
-- of these links together is at most the cost at the start
abbrev pub IsWayBack : Judged → List ℕ → ℕ → List ℕ → ℕ → List ℕ → Type 0
IsWayBack j members s costs to circle =
    (links : List Link) × LinksLead j (slice_index members to) (slice_index members s) links × (map link_from links ≡ reverse circle)
    × (slice_index costs to + cost links ≤ slice_index costs s)

-- a link from u leads to v and the costs add up exactly; no link from the start does so, and none from a member before u
pub record IsFirstBefore (rows : List (List ℕ)) (s : ℕ) (costs : List ℕ) (v : ℕ) (u : ℕ) : Type 0 where
  pub sum : slice_index costs u + price_of rows u v ≡ slice_index costs v
  pub later : price_of rows s v ≢ slice_index costs v
  pub first : (t : ℕ) → t < u → slice_index costs t + price_of rows t v ≢ slice_index costs v
