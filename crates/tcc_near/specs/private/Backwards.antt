-- Walk lengths by those of the transactions that pairs lead to.
use Rattle.std.specs.Prelude.{ℕ, ◌<◌, ◌≤◌, ◌≡◌, ◌≢◌, ◌⊎◌, ◌↔◌, true, min, List, [], length, slice_index, Contains}
use Rattle.tcc_reads.specs.History.{History, count}
use Rattle.tcc_graph.specs.Relations.{IsSessionPair, causal_pair}
use Rattle.tcc_graph.specs.Levels.{causally}
use Rattle.tcc_graph.specs.Walks.{Leads}
use Rattle.tcc_graph.specs.Tables.{row_of}
use Rattle.tcc_graph.specs.declared.step.Step.{Step}
use Rattle.tcc_near.specs.private.Breadth.{HasLengths}
use Rattle.tcc_near.specs.declared.walk_lengths.TheConstants.{NONE}

-- steps, n of them, lead from one of these to c; no steps lead from one of these to itself
abbrev pub IsLedFrom : History → (ℕ → Type 0) → ℕ → ℕ → Type 0
IsLedFrom h IsOne c n = (b : ℕ) × IsOne b × (steps : List Step) × Leads h b c steps × (length steps ≡ n)

-- the row has the least number of steps from one of these to each transaction, and none if no steps lead there
pub record IsLeastFrom (h : History) (IsOne : ℕ → Type 0) (row : List ℕ) : Type 0 where
  pub long : length row ≡ count h
  pub least : (b c : ℕ) (steps : List Step) → IsOne b → c < count h → Leads h b c steps → (slice_index row c < NONE) × (slice_index row c ≤ length steps)
  pub attained : (c : ℕ) → c < count h → (slice_index row c ≡ NONE) ⊎ ((slice_index row c ≤ count h) × IsLedFrom h IsOne c (slice_index row c))

-- the lesser value of two rows at each index, but 0 at the transaction from which the steps of the other lead
pub record IsLowered (old : List ℕ) (other : List ℕ) (from : ℕ) (new : List ℕ) : Type 0 where
  pub long : length new ≡ length old
  pub itself : slice_index new from ≡ 0
  pub others : (c : ℕ) → c < length old → c ≢ from → slice_index new c ≡ min (slice_index other c) (slice_index old c)

-- a session pair leads from a to b, or b is one of these
abbrev pub IsNextOrOne : History → ℕ → List ℕ → ℕ → Type 0
IsNextOrOne h a numbers b = IsSessionPair h a b ⊎ Contains numbers b

-- b is a, or a session pair leads there
abbrev pub IsFromOn : History → ℕ → ℕ → Type 0
IsFromOn h a b = IsSessionPair h a b ⊎ (b ≡ a)

-- session pairs and these are the causal pairs from a
abbrev pub AreOthers : History → ℕ → List ℕ → Type 0
AreOthers h a numbers = (b : ℕ) → (causal_pair h a b ≡ true) ↔ IsNextOrOne h a numbers b

-- a row for each transaction, with the lengths from it or empty
pub record AreKnown (h : History) (rows : List (List ℕ)) : Type 0 where
  pub long : length rows ≡ count h
  pub each : (u : ℕ) → u < count h → (row_of rows u ≡ []) ⊎ HasLengths (causally h) u (row_of rows u)

-- the row of b is complete
abbrev pub IsThere : List (List ℕ) → ℕ → ℕ → Type 0
IsThere rows n b = (b < length rows) × (length (row_of rows b) ≡ n)

-- transactions, 0 for none, each with the least numbers of steps from those that session pairs from it lead to
pub record AreHeads (h : History) (heads : List ℕ) (runs : List (List ℕ)) : Type 0 where
  pub same : length runs ≡ length heads
  pub inside : (s : ℕ) → s < length heads → slice_index heads s < count h
  pub run : (s : ℕ) → s < length heads → 0 < slice_index heads s → IsLeastFrom h (IsSessionPair h (slice_index heads s)) (row_of runs s)
