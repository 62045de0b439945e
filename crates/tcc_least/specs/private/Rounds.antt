-- Rounds, by what leads back from a reader.
use Rattle.std.specs.Prelude.{ℕ, ◌<◌, ◌≡◌, ◌⊎◌}
use Rattle.tcc_reads.specs.History.{History}
use Rattle.tcc_graph.specs.Relations.{IsCausalPair}
use Rattle.tcc_least.specs.Shapes.{IsRead}

-- c, which reads from a, is in a round of fewer than n pairs with it
abbrev pub IsBack : History → ℕ → ℕ → ℕ → Type 0
IsBack h n a c = ((1 < n) × (c ≡ a)) ⊎ (((2 < n) × IsCausalPair h c a) ⊎ ((3 < n) × ((d : ℕ) × IsRead h d a × IsCausalPair h c d)))
