use Rattle.std.proofs.Common.{◌<◌, ◌≤◌}
use Rattle.tcc_least.specs.private.Returns.{IsCut, IsSession}
use Rattle.tcc_least.proofs.ReturnLemmas.{AreDone}
use Rattle.tcc_least.proofs.returning.first_return.Given as goal

abbrev pub invariant-loop-number : goal.invariant-loop-number
invariant-loop-number l = record {
  done : AreDone l.graph l.number l.least;
  order : (l.session.0 ≤ l.number) × (l.number ≤ l.session.1);
  cut : IsCut l.graph l.session.1;
  session : l.number < l.session.1 → IsSession l.graph l.session.0 l.session.1;
}
