-- Members by what it costs to come to them. A member whose cost was lowered is still in the bucket of its old cost too.
use Rattle.std.specs.Prelude.{ℕ, ◌<◌, ◌≤◌, ◌⊎◌, List, Contains, length, slice_index}
use Rattle.tcc_graph.specs.Tables.{row_of}
use Rattle.tcc_lanes.specs.declared.pricing.TheConstants.{NONE}

-- each member that has a cost, of at least `floor`, is in the bucket of that cost
abbrev pub AreQueued : ℕ → List ℕ → List (List ℕ) → Type 0
AreQueued floor costs buckets =
    (v : ℕ) → v < length costs → floor ≤ slice_index costs v → slice_index costs v < NONE → Contains (row_of buckets (slice_index costs v)) v

-- costs were lowered: whoever is in a bucket was in it before or is a member; and the members that were in the buckets of their costs still
-- are
pub record AreQueuedOn (costs : List ℕ) (buckets : List (List ℕ)) (new_costs : List ℕ) (new_buckets : List (List ℕ)) : Type 0 where
  pub inside : (k v : ℕ) → Contains (row_of new_buckets k) v → Contains (row_of buckets k) v ⊎ (v < length costs)
  pub queued : (floor : ℕ) → AreQueued floor costs buckets → AreQueued floor new_costs new_buckets
