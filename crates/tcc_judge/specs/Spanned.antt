-- Readings that an order contradicts, and the transactions over which a derived link leads back in it.
use Rattle.std.specs.Prelude.{ℕ, ◌<◌, ◌≤◌, ◌/◌, List, Contains, length, slice_index}
use Rattle.tcc_reads.specs.History.{History, count}
use Rattle.tcc_graph.specs.Keys.{keys, key_at}
use Rattle.tcc_graph.specs.Levels.{Judged, causally}
use Rattle.tcc_graph.specs.Links.{IsReason}
use Rattle.tcc_graph.specs.Orders.{Before}
use Rattle.tcc_graph.specs.declared.step.Step.{Step}
use Rattle.tcc_lanes.specs.Nearness.{ArePlaces, IsNear}
use Rattle.tcc_lanes.specs.declared.limits.TheConstants.{MOST_MEMBERS, MOST_STEPS, MOST_SWEPT}

-- in the order v does not come before a, which is not `init`, nor after b, which has to come before a
abbrev pub IsSpanned : History → List ℕ → ℕ → Type 0
IsSpanned h order v =
    (b : ℕ) × (a : ℕ) × (x : List ℕ) × (c : ℕ) × (walk : List Step) × IsReason (causally h) b a x c walk
    × (0 < a) × (v < count h) × (Before order v a → ⊥) × (Before order b v → ⊥)

-- some transaction has to come before `init`, by a reading of the key at this index
abbrev pub IsStaleKey : History → ℕ → Type 0
IsStaleKey h key_index =
    (key_index < length (keys h)) × ((b : ℕ) × (c : ℕ) × (walk : List Step) × IsReason (causally h) b 0 (key_at h key_index) c walk)

-- some list of at most `most` numbers has all that are meant
abbrev pub AreFew : ℕ → (ℕ → Type 0) → Type 0
AreFew most Is = (list : List ℕ) × (length list ≤ most) × ((n : ℕ) → Is n → Contains list n)

-- some transaction has to come before a, which is not `init`, and does not
abbrev pub IsLedBack : History → List ℕ → ℕ → Type 0
IsLedBack h order a =
    (b : ℕ) × (x : List ℕ) × (c : ℕ) × (walk : List Step) × IsReason (causally h) b a x c walk × (0 < a) × (Before order b a → ⊥)

-- b has to come before some transaction that is not `init`, and does not
abbrev pub IsLeadingBack : History → List ℕ → ℕ → Type 0
IsLeadingBack h order b =
    (a : ℕ) × (x : List ℕ) × (c : ℕ) × (walk : List Step) × IsReason (causally h) b a x c walk × (0 < a) × (Before order b a → ⊥)

-- a derived link leads back over v, and v is near, by the positions of an order
abbrev pub IsMember : Judged → List ℕ → List ℕ → ℕ → ℕ → Type 0
IsMember j order positions most v = IsSpanned j.history order v × IsNear j (λ u. slice_index positions u) most v

-- within limits are the transactions from which a derived link leads back, those to which one leads back, and the near ones over which one
-- does
pub record HasFewMembers (j : Judged) (order : List ℕ) (most : ℕ) : Type 0 where
  pub sources : AreFew (MOST_SWEPT / most) (IsLeadingBack j.history order)
  pub targets : AreFew MOST_MEMBERS (IsLedBack j.history order)
  pub positions : List ℕ
  pub places : ArePlaces (count j.history) order positions
  pub members : AreFew MOST_MEMBERS (IsMember j order positions most)

-- what a cycle of fewer than `most` steps could go through is within limits: the number of steps, the transactions, and the keys by which a
-- derived link leads into `init`
pub record IsBounded (j : Judged) (order : List ℕ) (most : ℕ) : Type 0 where
  pub steps : most ≤ MOST_STEPS
  pub members : HasFewMembers j order most
  pub keys : AreFew MOST_MEMBERS (IsStaleKey j.history)
