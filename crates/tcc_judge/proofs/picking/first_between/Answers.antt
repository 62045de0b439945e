use Rattle.std.proofs.Common.{◌+◌}
use Rattle.tcc_graph.specs.Levels.{judged}
use Rattle.tcc_judge.proofs.Between.{found_at, least_low}
use Rattle.tcc_judge.proofs.picking.first_between.Goals as goal

pub first_of-requires-2-clause-low : goal.first_of-requires-2-clause-low
first_of-requires-2-clause-low c =
    let found = rw c.in-Some.is at c.in_ok-least.ensures in
    least_low (judged c.args.graph.now c.args.level) c.in-Some.least c.requires.short found.2

pub returns : goal.returns
returns c =
    let found = rw c.in-Some.is at c.in_ok-least.ensures in
    found_at (judged c.args.graph.now c.args.level) c.in-Some.least (c.args.steps + 1) c.in_ok-first.first found.2 c.in_ok-first.ensures
