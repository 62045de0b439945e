use Rattle.std.proofs.Common.{ℕ, ◌<◌, List}
use Rattle.std.specs.Prelude.{slice_index}
use Rattle.tcc_graph.specs.Relations.{IsReadsPair}
use Rattle.tcc_graph.specs.Keys.{IsWriter}
use Rattle.tcc_least.specs.Shapes.{IsRead}
use Rattle.tcc_first.proofs.stale_sources.has_stale_read.Given as goal

abbrev pub invariant-loop-reader : goal.invariant-loop-reader
invariant-loop-reader l =
    (k : ℕ) → k < l.reader-index
    → ((u : ℕ) × (x : List ℕ) × IsReadsPair l.graph u (slice_index l.reader-items k) x × (l.start < u) × IsWriter l.graph l.start x × IsRead l.graph u l.start) → ⊥
