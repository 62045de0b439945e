-- What ranks contradict, where they are the places of an order that keeps all pairs, and the cycles through it.
use Rattle.std.specs.Prelude.{ℕ, ◌<◌, ◌≤◌, ◌≢◌, ◌+◌, List, length}
use Rattle.tcc_graph.specs.Levels.{Judged}
use Rattle.tcc_graph.specs.Links.{IsReason, cost}
use Rattle.tcc_graph.specs.Routes.{IsRoute}
use Rattle.tcc_graph.specs.declared.link.Link.{Link}
use Rattle.tcc_graph.specs.declared.step.Step.{Step}

-- the ranks contradict that c reads x from a: a transaction that has to come before a because of it has no lower rank
abbrev pub IsAgainstRanks : Judged → (ℕ → ℕ) → ℕ → List ℕ → ℕ → Type 0
IsAgainstRanks j rank a x c = (b : ℕ) × (walk : List Step) × IsReason j b a x c walk × (rank a ≤ rank b)

-- a route from a, and then a derived link back by that reading, cost less than n
abbrev pub HasCheaper : Judged → ℕ → ℕ → List ℕ → ℕ → Type 0
HasCheaper j n a x c =
    (b : ℕ) × (walk : List Step) × (links : List Link) × IsRoute j a b links × IsReason j b a x c walk × (cost links + (length walk + 1) < n)

-- a derived link leads from a rank that is not below that of v to one that is not above it
abbrev pub IsRankSpanned : Judged → (ℕ → ℕ) → ℕ → Type 0
IsRankSpanned j rank v =
    (b : ℕ) × (a : ℕ) × (x : List ℕ) × (c : ℕ) × (walk : List Step) × IsReason j b a x c walk × (rank a ≤ rank v) × (rank v ≤ rank b)

-- a derived link that doesn't lead into `init` spans the rank of v
abbrev pub IsSpannedAside : Judged → (ℕ → ℕ) → ℕ → Type 0
IsSpannedAside j rank v =
    (b : ℕ) × (a : ℕ) × (x : List ℕ) × (c : ℕ) × (walk : List Step) × IsReason j b a x c walk × (a ≢ 0) × (rank a ≤ rank v) × (rank v ≤ rank b)
