-- Which transactions links lead to, and what they cost: those of session pairs as a range, and the others one by one.
use Rattle.std.specs.Prelude.{ℕ, ◌<◌, ◌≡◌, ◌⊎◌, ◌↔◌, Some, Contains}
use Rattle.tcc_reads.specs.History.{count}
use Rattle.tcc_graph.specs.Levels.{Judged}
use Rattle.tcc_derive.specs.Prices.{Tables, cost_at, others_at, IsLater}

-- a cheapest link from u to v costs c exactly if v is later in the session and c is 1, or v is among the others with c
abbrev pub AreLinks : Judged → Tables → Type 0
AreLinks j t =
    (u : ℕ) (v : ℕ) (c : ℕ) → u < count j.history → v < count j.history
    → (cost_at t u v ≡ Some c) ↔ ((IsLater t u v × (c ≡ 1)) ⊎ Contains (others_at t u) (v, c))
