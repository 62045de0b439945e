use Rattle.std.proofs.Common.{ℕ, ◌<◌}
use Rattle.std.specs.Prelude.{slice_index_or}
use Rattle.tcc_graph.specs.Keys.{IsWriter, key_at}
use Rattle.tcc_least.specs.Shapes.{IsRead}
use Rattle.tcc_first.proofs.stale_sources.reads_overwritten.Given as goal

abbrev pub invariant-loop-read : goal.invariant-loop-read
invariant-loop-read l =
    (k : ℕ) → k < l.read-index
    → ((l.start < (slice_index_or l.read-items k (0, 0)).1) × IsWriter l.graph l.start (key_at l.graph (slice_index_or l.read-items k (0, 0)).0)
    × IsRead l.graph (slice_index_or l.read-items k (0, 0)).1 l.start) → ⊥
