use Rattle.tcc_graph.specs.Levels.{judged}
use Rattle.tcc_judge.proofs.Between.{first_found}
use Rattle.tcc_judge.proofs.picking.first_of.Goals as goal

pub returns-in-Some : goal.returns-in-Some
returns-in-Some c =
    first_found (judged c.args.graph.now c.args.level) c.args.steps c.in-Some.circle c.requires.low c.requires.none (rw c.in-Some.is at c.in_ok-circle.ensures)
