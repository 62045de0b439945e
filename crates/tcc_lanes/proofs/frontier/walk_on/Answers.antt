use Rattle.std.proofs.Common.{arith}
use Rattle.tcc_lanes.proofs.Walked.{walked_by}
use Rattle.tcc_lanes.proofs.frontier.walk_on.Goals as goal

pub returns-clause-each : goal.returns-clause-each
returns-clause-each c = λ v i below lane.
    let spread = c.spread.ensures.each v i below lane in
    let by =
    walked_by c.args.graph.now c.args.level c.args.starts.now c.args.reached.now c.put_underway.new.underway
    (λ u l. c.put_underway.ensures.each u (omega (arith, l, c.requires.underway))) v i in
    ((λ at. by.0 (spread.0 at)), λ w. spread.1 (by.1 w))
