use Rattle.std.proofs.Common.{◌*◌}
use Rattle.tcc_clocks.specs.declared.latest.TheConstants.{WIDE}
use Rattle.tcc_judge.specs.private.Blocks.{IsReady}
use Rattle.tcc_judge.proofs.BehindLemmas.{IsBrokenPast}
use Rattle.tcc_judge.proofs.axiom_violation.first_behind.Given as goal

abbrev pub invariant-loop-number : goal.invariant-loop-number
invariant-loop-number g l = record {
  ready : IsReady l.graph l.order l.block;
  past : IsBrokenPast l.graph l.order (l.number * WIDE);
}
