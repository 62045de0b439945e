use Rattle.std.proofs.Common.{ℕ, ◌<◌, ◌≡◌, true}
use Rattle.std.specs.Prelude.{slice_index_or}
use Rattle.std.specs.List.{Contains}
use Rattle.tcc_graph.specs.Relations.{causal_pair}
use Rattle.tcc_first.proofs.returns.reads_overwriting.Given as goal

abbrev pub invariant-loop-read : goal.invariant-loop-read
invariant-loop-read l =
    (k : ℕ) → k < l.read-index → l.from < (slice_index_or l.read-items k (0, 0)).1
    → causal_pair l.graph l.from (slice_index_or l.read-items k (0, 0)).1 ≡ true → Contains l.writers (slice_index_or l.read-items k (0, 0)).1 → ⊥
