-- Walks from where lanes start, one pair longer each time.
use Rattle.std.specs.Prelude.{ℕ, ◌⊎◌, List, bit_or}
use Rattle.tcc_reads.specs.History.{History}
use Rattle.tcc_graph.specs.Relations.{IsCausalPair}
use Rattle.tcc_graph.specs.declared.level.Level.{Level}
use Rattle.tcc_graph.specs.declared.level.Level.TheVariants as level
use Rattle.tcc_lanes.specs.private.Marks.{IsAt}

-- the lane starts at v, or, where longer walks are allowed, has come to it
abbrev pub IsUnderway : Level → List ℕ → List ℕ → ℕ → ℕ → Type 0
IsUnderway level.Causal starts reached v i = IsAt starts v i ⊎ IsAt reached v i
IsUnderway level.Atomic starts reached v i = IsAt starts v i

-- a pair leads to v from there
abbrev pub IsWalkedOn : History → Level → List ℕ → List ℕ → ℕ → ℕ → Type 0
IsWalkedOn h level starts reached v i = (u : ℕ) × IsCausalPair h u v × IsUnderway level starts reached u i

-- the lanes that are underway at a transaction: those that start there, and those that have come there
abbrev pub underway_at : Level → ℕ → ℕ → ℕ
underway_at level.Causal starts reached = bit_or starts reached
underway_at level.Atomic starts reached = starts
