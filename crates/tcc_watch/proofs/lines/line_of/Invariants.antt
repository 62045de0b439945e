use Rattle.std.proofs.Common.{ℕ, ◌≡◌, ◌<◌, get_or, length}
use Rattle.tcc_watch.specs.declared.lines.Line.{Line}
use Rattle.tcc_watch.proofs.lines.line_of.Given as goal

abbrev pub invariant-loop-index : goal.invariant-loop-index
invariant-loop-index l = (k : ℕ) (d : Line) → k < l.index → k < length l.lines → (get_or l.lines k d).name ≡ l.name → ⊥
