use Rattle.std.proofs.Common.{ℕ, ◌<◌}
use Rattle.std.specs.Prelude.{slice_index}
use Rattle.std.specs.List.{Contains}
use Rattle.tcc_first.proofs.two_steps.leads_to_reader.Given as goal

abbrev pub invariant-loop-reader : goal.invariant-loop-reader
invariant-loop-reader l = (k : ℕ) → k < l.reader-index → Contains l.readers (slice_index l.reader-items k) → ⊥
