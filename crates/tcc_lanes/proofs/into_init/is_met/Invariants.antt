use Rattle.std.proofs.Common.{◌<◌, ℕ, slice_index}
use Rattle.tcc_lanes.specs.private.IntoInit.{IsReadOfInit}
use Rattle.tcc_lanes.proofs.into_init.is_met.Given as goal

abbrev pub invariant-loop-reader : goal.invariant-loop-reader
invariant-loop-reader l = (reader : ℕ) → reader < l.reader → IsReadOfInit l.graph l.key_lanes (slice_index l.reached reader) reader → ⊥
