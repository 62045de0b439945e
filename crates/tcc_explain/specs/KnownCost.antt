-- The tables of a cycle's certificate, where it is known what a least cycle costs.
use Rattle.std.specs.Prelude.{ℕ, ◌≡◌, List}
use Rattle.tcc_graph.specs.Levels.{Judged}
use Rattle.tcc_graph.specs.Links.{cost}
use Rattle.tcc_graph.specs.Routes.{IsLeastCycle}
use Rattle.tcc_graph.specs.declared.link.Link.{Link}
use Rattle.tcc_explain.specs.Certificates.{IsNearTable, IsFarTable}
use Rattle.tcc_explain.specs.declared.distances.Distances.{Distances}

-- a least cycle costs c
abbrev pub IsLeastCost : Judged → ℕ → Type 0
IsLeastCost j c = (s : ℕ) × (links : List Link) × IsLeastCycle j s links × (cost links ≡ c)

-- both tables, capped at the cost of a least cycle
abbrev pub AreDistances : Judged → ℕ → Distances → Type 0
AreDistances j cost tables = IsNearTable j cost tables.near × IsFarTable j cost tables.far
