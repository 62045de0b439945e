use Rattle.std.proofs.Common.{◌∙◌}
use Rattle.tcc_watch.proofs.verdict.decide.Goals as goal

pub returns-in_ok-graph-in-Ok : goal.returns-in_ok-graph-in-Ok
returns-in_ok-graph-in-Ok c = c.judge.ensures c.args.snapshot.now c.in-Ok.ensures.0 (c.in_ok-graph-in-Ok.ensures ∙ c.in-Ok.ensures.1)

pub returns-in-Err : goal.returns-in-Err
returns-in-Err c = c.unresolved.ensures c.args.snapshot.now c.args.level c.in-Err.ensures
