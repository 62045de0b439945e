use Rattle.std.proofs.Common.{ℕ, ◌≡◌, ◌<◌, [], get_or, length}
use Rattle.tcc_watch.specs.declared.lines.Line.{Line}
use Rattle.tcc_watch.proofs.arrivals.is_waiting.Given as goal

abbrev pub invariant-loop-index : goal.invariant-loop-index
invariant-loop-index l = (k : ℕ) (d : Line) → k < l.index → k < length l.lines → (get_or l.lines k d).waiting.items ≡ []
