-- Cycles among some transactions, and derived links into `init`.
use Rattle.std.specs.Prelude.{ℕ, ◌<◌, ◌≤◌, ◌≡◌, ◌+◌, List, Option, None, Some, All, Contains, length, map}
use Rattle.tcc_graph.specs.Keys.{key_at}
use Rattle.tcc_graph.specs.Levels.{Judged}
use Rattle.tcc_graph.specs.Links.{IsReason, cost, link_from, link_to}
use Rattle.tcc_graph.specs.Routes.{IsCycle}
use Rattle.tcc_graph.specs.declared.link.Link.{Link}
use Rattle.tcc_graph.specs.declared.step.Step.{Step}

-- a link begins and ends at these transactions
abbrev pub IsAmong : List ℕ → Link → Type 0
IsAmong members l = Contains members (link_from l) × Contains members (link_to l)

-- a cycle of links among these transactions costs less than n
abbrev pub HasCheaperAmong : Judged → List ℕ → ℕ → Type 0
HasCheaperAmong j members n = (v : ℕ) × (links : List Link) × IsCycle j v links × All (IsAmong members) links × (cost links < n)

-- a cycle whose links begin at these transactions, in their order, costs less than n
abbrev pub HasCheaperAlong : Judged → List ℕ → ℕ → Type 0
HasCheaperAlong j circle n = (v : ℕ) × (links : List Link) × IsCycle j v links × (map link_from links ≡ circle) × (cost links < n)

-- a derived link from b into `init`, by a reader of one of the keys (given by their indices), and a pair that leads on from there cost less
-- than n
abbrev pub ComesIntoInit : Judged → List ℕ → ℕ → ℕ → Type 0
ComesIntoInit j key_indices n b =
    (key_index : ℕ) × (c : ℕ) × (walk : List Step) × Contains key_indices key_index
    × IsReason j b 0 (key_at j.history key_index) c walk × (length walk + 2 < n)

-- some transaction has such a link
abbrev pub HasCheaperIntoInit : Judged → List ℕ → ℕ → Type 0
HasCheaperIntoInit j key_indices n = (b : ℕ) × ComesIntoInit j key_indices n b

-- and this is the lowest that has one
abbrev pub IsLowestIntoInit : Judged → List ℕ → ℕ → ℕ → Type 0
IsLowestIntoInit j key_indices n b = ComesIntoInit j key_indices n b × ((w : ℕ) → ComesIntoInit j key_indices n w → b ≤ w)

-- the least cost, or none if nothing costs less than n; `Has` says whether something costs less than a limit
abbrev pub IsCheapest : (ℕ → Type 0) → ℕ → Option ℕ → Type 0
IsCheapest Has n None = Has n → ⊥
IsCheapest Has n (Some c) = (c < n) × Has (c + 1) × (Has c → ⊥)
