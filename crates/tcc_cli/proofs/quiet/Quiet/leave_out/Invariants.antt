-- nothing is shown so far, and the line goes on
use Rattle.std.proofs.Common.{◌≡◌, take}
use Rattle.tcc_cli.specs.declared.quiet.LineState.TheVariants as states
use Rattle.tcc_cli.proofs.OrderLines.{IsHidden}
use Rattle.tcc_cli.proofs.quiet.Quiet.leave_out.Given as goal

abbrev pub invariant-loop-index : goal.invariant-loop-index
invariant-loop-index g l = record {
  kept : l.self ≡ l.initial.self;
  hidden : IsHidden states.LeftOut (take l.index l.bytes);
}
