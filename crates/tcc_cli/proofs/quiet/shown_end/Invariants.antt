-- all is shown so far
use Rattle.std.proofs.Common.{◌≡◌, ◌≤◌, ℕ, cond, take}
use Rattle.tcc_cli.specs.OrderLines.{AreShown, line_after}
use Rattle.tcc_cli.specs.declared.quiet.LineState.TheVariants as states
use Rattle.tcc_cli.proofs.quiet.shown_end.Given as goal

abbrev pub invariant-loop-index : goal.invariant-loop-index
invariant-loop-index l = record {
  shown : (n : ℕ) → n ≤ l.index → AreShown (take n l.bytes);
  line : line_after states.Shown (take l.index l.bytes) ≡ cond l.is_begun (states.Begun 0) states.Shown;
}
