-- The tables in an answer's certificate: the distances of a cycle, capped at its cost, and the clocks of an order. Also how transactions
-- are numbered where clocks can be checked.
use Rattle.std.specs.Prelude.{ℕ, ◌<◌, ◌≤◌, ◌≡◌, ◌⊎◌, List, [], length, Some}
use Rattle.tcc_reads.specs.History.{History, count, owner, place}
use Rattle.tcc_graph.specs.Levels.{Judged, IsAllowedWalk}
use Rattle.tcc_graph.specs.declared.level.Level.{Level}
use Rattle.tcc_graph.specs.declared.level.Level.TheVariants.{Causal, Atomic}
use Rattle.tcc_graph.specs.declared.step.Step.{Step}
use Rattle.tcc_graph.specs.Clocks.{IsClocksOf}
use Rattle.tcc_near.specs.WalkLengths.{IsShortest}
use Rattle.tcc_core.specs.Shares.{IsCappedDistance}
use Rattle.tcc_cert.specs.Tables.{entry, far_entry, HasSize, HasFarSize}
use Rattle.tcc_cert.specs.declared.version.Version.TheVariants.{Two}

-- the least length of an allowed walk from a to c where it is below the cap, else the cap
abbrev pub IsCappedShortest : Judged → ℕ → ℕ → ℕ → ℕ → Type 0
IsCappedShortest j cap a c n =
    ((n < cap) × IsShortest j a c n) ⊎ ((n ≡ cap) × ((walk : List Step) → IsAllowedWalk j a c walk → cap ≤ length walk))

-- from each transaction to each, itself included, the least length of an allowed walk, capped
pub record IsNearTable (j : Judged) (cap : ℕ) (table : List (List ℕ)) : Type 0 where
  pub size : HasSize (count j.history) (count j.history) table
  pub exact : (a : ℕ) (c : ℕ) → a < count j.history → c < count j.history → IsCappedShortest j cap a c (entry table a c)

-- from each transaction to itself and each above it, the least cost of a route over numbers from there upward, capped
pub record IsFarTable (j : Judged) (cap : ℕ) (table : List (List ℕ)) : Type 0 where
  pub size : HasFarSize Two (count j.history) table
  pub exact : (s : ℕ) (v : ℕ) → s ≤ v → v < count j.history
      → IsCappedDistance j s v (Some cap) (Some (far_entry Two table s v))

-- the clocks by which an order can be checked: at `Atomic` they are not needed, and there are none
abbrev pub IsClocksAt : Level → History → List (List ℕ) → Type 0
IsClocksAt Causal h clocks = IsClocksOf h clocks
IsClocksAt Atomic h clocks = clocks ≡ []

-- committed transactions are of sessions that there are, their places count from 1, and grow in a session by number
pub record IsNumbered (h : History) : Type 0 where
  pub owned : (n : ℕ) → 0 < n → n < count h → owner h n < length h.sessions
  pub placed : (n : ℕ) → 0 < n → n < count h → 0 < place h n
  pub apart : (m : ℕ) (n : ℕ) → 0 < m → m < n → n < count h → owner h m ≡ owner h n → place h m < place h n
