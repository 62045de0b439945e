use Rattle.std.proofs.Common.{ℕ, ◌<◌, ◌≡◌, true}
use Rattle.std.specs.Prelude.{slice_index}
use Rattle.tcc_graph.specs.Relations.{session_pair}
use Rattle.tcc_first.proofs.two_steps.is_read_after_init.Given as goal

abbrev pub invariant-loop-reader : goal.invariant-loop-reader
invariant-loop-reader l = (k : ℕ) → k < l.reader-index → session_pair l.graph 0 (slice_index l.reader-items k) ≡ true → ⊥
