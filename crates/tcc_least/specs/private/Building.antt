-- The parts of which the links of short cycles are made.
use Rattle.std.specs.Prelude.{ℕ, ◌<◌, List}
use Rattle.tcc_reads.specs.History.{History}
use Rattle.tcc_graph.specs.Relations.{IsCausalPair}
use Rattle.tcc_graph.specs.Keys.{IsWriter}
use Rattle.tcc_graph.specs.Levels.{judged}
use Rattle.tcc_graph.specs.Links.{cost}
use Rattle.tcc_graph.specs.Routes.{IsCycle}
use Rattle.tcc_graph.specs.declared.level.Level.{Level}
use Rattle.tcc_graph.specs.declared.link.Link.{Link}

-- b writes the key x, and a pair leads from b to c
abbrev pub Overwrites : History → ℕ → ℕ → List ℕ → Type 0
Overwrites h b c x = IsWriter h b x × IsCausalPair h b c

-- a cycle that costs less than n, at each level
abbrev pub IsShortCycle : History → ℕ → List Link → Type 0
IsShortCycle h n links = ((level : Level) → (s : ℕ) × IsCycle (judged h level) s links) × (cost links < n)
