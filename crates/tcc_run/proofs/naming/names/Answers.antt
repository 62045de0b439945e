use Rattle.std.proofs.Common.{All, arith}
use Rattle.std.specs.FinMap.{entries, len-entries}
use Rattle.tcc_explain.specs.Keys.{NamesKeys}
use Rattle.tcc_run.proofs.SoFar.{all_before, none_before}
use Rattle.tcc_run.proofs.naming.names.Goals as goal

pub loop-i-init : goal.loop-i-init
loop-i-init c = none_before (λ named. All NamesKeys named.1) (entries c.args.snapshot.now)

pub returns-clause-names : goal.returns-clause-names
returns-clause-names c =
    all_before (λ named. All NamesKeys named.1) (entries c.args.snapshot.now) c.loop-i.i
    (omega (arith, c.sessions-i-end.ensures.value, len-entries c.args.snapshot.now, c.loop-i-test.false)) c.loop-i.invariant
