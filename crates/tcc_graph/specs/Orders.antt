-- Commit orders.
use Rattle.std.specs.Prelude.{ℕ, ◌<◌, ◌≡◌, ◌≢◌, List, length, slice_index, Contains, All}
use Rattle.std.specs.Ordering.{nat_cmp}
use Rattle.std.specs.declared.cmp.Ordering.TheVariants.{Greater}
use Rattle.std.specs.Cmp.Lexicographic.{slice_cmp}
use Rattle.tcc_reads.specs.History.{count}
use Rattle.tcc_graph.specs.Relations.{IsSessionPair, IsReadsPair}
use Rattle.tcc_graph.specs.Levels.{Judged}
use Rattle.tcc_graph.specs.Links.{IsReason}
use Rattle.tcc_graph.specs.declared.step.Step.{Step}

-- a is before b in the list
abbrev pub Before : List ℕ → ℕ → ℕ → Type 0
Before order a b =
    (i : ℕ) × (j : ℕ) × (i < j) × (j < length order) × (slice_index order i ≡ a) × (slice_index order j ≡ b)

-- the list has each number below n once, and no other
pub record IsNumbering (n : ℕ) (order : List ℕ) : Type 0 where
  pub below : All (λ a. a < n) order
  pub each : (a : ℕ) → a < n → Contains order a
  pub once : (i : ℕ) (j : ℕ) → i < j → j < length order → slice_index order i ≢ slice_index order j

-- An order of all transactions that keeps both relations and the axiom of the level. If b writes the key x too and reaches a
-- reader of x from a by a walk that the level allows, b is before a.
pub record IsCommitOrder (j : Judged) (order : List ℕ) : Type 0 where
  pub numbering : IsNumbering (count j.history) order
  pub sessions : (a : ℕ) (b : ℕ) → IsSessionPair j.history a b → Before order a b
  pub reads : (a : ℕ) (b : ℕ) (x : List ℕ) → IsReadsPair j.history a b x → Before order a b
  pub axiom_of : (b : ℕ) (a : ℕ) (x : List ℕ) (c : ℕ) (walk : List Step) → IsReason j b a x c walk → Before order b a

-- the first of all commit orders, compared as lists of numbers
pub record IsFirstOrder (j : Judged) (order : List ℕ) : Type 0 where
  pub commit : IsCommitOrder j order
  pub first : (other : List ℕ) → IsCommitOrder j other → slice_cmp nat_cmp order other ≢ Greater
