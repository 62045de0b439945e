use Rattle.std.proofs.Common.{rules, ◌≡◌}
use Rattle.tcc_near.proofs.adjacency.mark_between.Goals as goal

pub returns-clause-each : goal.returns-clause-each
returns-clause-each c =
    let whole : c.loop-number.number ≡ c.args.end = search rules in
    rw whole at c.loop-number.invariant.2
