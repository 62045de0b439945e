use Rattle.std.proofs.Common.{ℕ, ◌<◌, slice_index, get_or}
use Rattle.tcc_forget.specs.Cases.{Observes}
use Rattle.tcc_forget.proofs.slots.is_passed.Given as goal

abbrev pub invariant-loop-b : goal.invariant-loop-b
invariant-loop-b g l = (k : ℕ) → k < l.b-index → Observes g.on.history g.on.entry (slice_index g.on.numbers (get_or l.listed k 0)) → ⊥
