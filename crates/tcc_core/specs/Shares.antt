-- The results of workers' searches, and when they settle the least cost of a cycle.
use Rattle.std.specs.Prelude.{ℕ, ◌<◌, ◌≤◌, ◌≡◌, ◌⊎◌, List, map, flat_map, All, Contains, Option, None, Some, nat_lt, if◌then◌else◌}
use Rattle.tcc_reads.specs.History.{count}
use Rattle.tcc_graph.specs.Levels.{Judged}
use Rattle.tcc_graph.specs.Links.{cost}
use Rattle.tcc_graph.specs.Orders.{IsNumbering}
use Rattle.tcc_graph.specs.Routes.{IsUpwardRoute, IsCycle, IsDistance}
use Rattle.tcc_graph.specs.declared.link.Link.{Link}
use Rattle.tcc_core.specs.Rows.{in_row, IsSearchRow, IsCutOff}

-- how a search ended: it returned to its start at this cost, or was cut at a cap, where none is above every number
pub data Stop : Type 0 where
  Returned : ℕ → Stop
  Cut : Option ℕ → Stop

-- a search that ended
pub record Finished : Type 0 where
  pub start : ℕ
  pub row : List (Option ℕ)
  pub stop : Stop

-- the result of one worker: its searches, the costs that it offered, and the least cost that it saw last
pub record Share : Type 0 where
  pub finished : List Finished
  pub offers : List ℕ
  pub sight : Option ℕ

-- b is not above k; none is above every number
abbrev pub IsNotAbove : Option ℕ → Option ℕ → Type 0
IsNotAbove b None = Unit {0}
IsNotAbove None (Some k) = ⊥
IsNotAbove (Some b) (Some k) = b ≤ k

-- The search returned to its start, and the worker offered the cost. Or it was cut at no less than what the worker saw last, without its
-- start, and nothing outside its row is within that cap.
abbrev pub IsStopped : Judged → Share → ℕ → List (Option ℕ) → Stop → Type 0
IsStopped j share s row (Returned c) = (in_row row s ≡ Some c) × Contains share.offers c
IsStopped j share s row (Cut cap) = IsNotAbove share.sight cap × (in_row row s ≡ None) × IsCutOff j s row cap

-- a search of the worker, to its end
pub record IsFinished (j : Judged) (share : Share) (f : Finished) : Type 0 where
  pub row : IsSearchRow j f.start f.row
  pub stopped : IsStopped j share f.start f.row f.stop

-- some cycle costs c
abbrev pub IsCycleCost : Judged → ℕ → Type 0
IsCycleCost j c = (s : ℕ) × (links : List Link) × IsCycle j s links × (cost links ≡ c)

-- the word is not below the cost of a least cycle, which is none where there is no cycle
abbrev pub IsNotBelowLeast : Judged → Option ℕ → Type 0
IsNotBelowLeast j None = Unit {0}
IsNotBelowLeast j (Some b) = (c : ℕ) × IsCycleCost j c × (c ≤ b)

-- the starts of the searches in the shares
abbrev pub starts_of : List Share → List ℕ
starts_of shares = flat_map (λ share. map (λ f. f.start) share.finished) shares

-- a fact of each search in the shares
abbrev pub EachFinished : List Share → (Finished → Type 0) → Type 0
EachFinished shares P = All (λ share. All P share.finished) shares

-- the shares settle at the word, a cost or none
pub record SettleAt (j : Judged) (shares : List Share) (word : Option ℕ) : Type 0 where
  -- each start is in one share, once
  pub once : IsNumbering (count j.history) (starts_of shares)
  pub finished : All (λ share. All (IsFinished j share) share.finished) shares
  pub offered : All (λ share. All (IsCycleCost j) share.offers) shares
  pub below_offers : All (λ share. All (λ c. IsNotAbove word (Some c)) share.offers) shares
  pub below_sights : All (λ share. IsNotAbove word share.sight) shares
  pub not_below : IsNotBelowLeast j word

-- the distance from s to v; none where no upward route leads there
abbrev pub IsDistanceOrNone : Judged → ℕ → ℕ → Option ℕ → Type 0
IsDistanceOrNone j s v None = (links : List Link) → IsUpwardRoute j s v links → ⊥
IsDistanceOrNone j s v (Some c) = IsDistance j s v c

-- a number capped at the word where there is one; none is above every number
abbrev pub capped : Option ℕ → Option ℕ → Option ℕ
capped None c = c
capped (Some b) None = Some b
capped (Some b) (Some c) = if nat_lt c b then Some c else Some b

-- The distance from s to v, capped at the word where there is one. It is the distance itself below the word, and the word where each upward
-- route costs as much or there is none.
abbrev pub IsCappedDistance : Judged → ℕ → ℕ → Option ℕ → Option ℕ → Type 0
IsCappedDistance j s v None c = IsDistanceOrNone j s v c
IsCappedDistance j s v (Some b) None = ⊥
IsCappedDistance j s v (Some b) (Some c) =
    ((c < b) × IsDistance j s v c) ⊎ ((c ≡ b) × ((links : List Link) → IsUpwardRoute j s v links → b ≤ cost links))
