-- How near a transaction is to the derived links that lead back, where ranks are the places of an order that keeps all pairs.
use Rattle.std.specs.Prelude.{ℕ, ◌<◌, ◌≤◌, ◌≡◌, ◌≢◌, ◌+◌, ◌⊎◌, ◌↔◌, Bool, true, false, List, Contains, length, slice_index, slice_index_or}
use Rattle.tcc_reads.specs.History.{count}
use Rattle.tcc_graph.specs.Levels.{Judged}
use Rattle.tcc_graph.specs.Links.{IsReason}
use Rattle.tcc_graph.specs.Orders.{IsNumbering}
use Rattle.tcc_graph.specs.Relations.{IsCausalPair}
use Rattle.tcc_graph.specs.declared.step.Step.{Step}

-- a derived link of this price leads back, and not into `init`; a cycle of fewer than `most` steps can have another step besides it
pub record IsClosing (j : Judged) (rank : ℕ → ℕ) (most : ℕ) (b : ℕ) (a : ℕ) (price : ℕ) : Type 0 where
  pub key : List ℕ
  pub reader : ℕ
  pub walk : List Step
  pub reason : IsReason j b a key reader walk
  pub aside : a ≢ 0
  pub back : rank a ≤ rank b
  pub costs : length walk + 1 ≡ price
  pub short : price + 1 < most

-- one of them leads back over what is between this rank and the next
abbrev pub IsOver : Judged → (ℕ → ℕ) → ℕ → ℕ → Type 0
IsOver j rank most at = (b : ℕ) × (a : ℕ) × (price : ℕ) × IsClosing j rank most b a price × (rank a ≤ at) × (at < rank b)

-- v is after u, and each gap between neighbouring ranks from u to v has such a link over it
abbrev pub IsJump : Judged → (ℕ → ℕ) → ℕ → ℕ → ℕ → Type 0
IsJump j rank most u v = (rank u < rank v) × ((at : ℕ) → rank u ≤ at → at < rank v → IsOver j rank most at)

-- links that lead forward from u to v cost at least n: 0 if u is v, 1 by a pair, and 2 otherwise
abbrev pub IsForward : Judged → (ℕ → ℕ) → ℕ → ℕ → ℕ → ℕ → Type 0
IsForward j rank most u v n =
    ((u ≡ v) × (n ≡ 0)) ⊎ ((IsCausalPair j.history u v × (n ≡ 1)) ⊎ (IsJump j rank most u v × (n ≡ 2)))

-- the same without regard to pairs: 0 if u is v, and 1 otherwise
abbrev pub IsOnward : Judged → (ℕ → ℕ) → ℕ → ℕ → ℕ → ℕ → Type 0
IsOnward j rank most u v n = ((u ≡ v) × (n ≡ 0)) ⊎ (IsJump j rank most u v × (n ≡ 1))

-- forward from where such a link ends to v, onward to where one begins, and back by that one: fewer steps than `most`
pub record IsNear (j : Judged) (rank : ℕ → ℕ) (most : ℕ) (v : ℕ) : Type 0 where
  pub target : ℕ
  pub ended : (b : ℕ) × (price : ℕ) × IsClosing j rank most b target price
  pub source : ℕ
  pub price : ℕ
  pub begun : (a : ℕ) × IsClosing j rank most source a price
  pub comes : ℕ
  pub from : IsForward j rank most target v comes
  pub goes : ℕ
  pub to : IsOnward j rank most v source goes
  pub few : comes + (goes + price) < most

-- an order of n numbers, `init` first, and the position of each of them
pub record ArePlaces (n : ℕ) (order : List ℕ) (positions : List ℕ) : Type 0 where
  pub numbering : IsNumbering n order
  pub init : slice_index order 0 ≡ 0
  pub long : length positions ≡ n
  pub within : (v : ℕ) → v < n → slice_index positions v < length order
  pub here : (v : ℕ) → v < n → slice_index order (slice_index positions v) ≡ v

-- each of those links begins at one of the sources, and ends at one of the targets
abbrev pub AreEndsOfAll : Judged → (ℕ → ℕ) → ℕ → List ℕ → List ℕ → Type 0
AreEndsOfAll j rank most sources targets =
    (b : ℕ) (a : ℕ) (price : ℕ) → IsClosing j rank most b a price → Contains sources b × Contains targets a

-- the marked transactions are those that are near
pub record AreNear (j : Judged) (rank : ℕ → ℕ) (most : ℕ) (marks : List Bool) : Type 0 where
  pub long : length marks ≡ count j.history
  pub each : (v : ℕ) → v < count j.history → (slice_index_or marks v false ≡ true) ↔ IsNear j rank most v
