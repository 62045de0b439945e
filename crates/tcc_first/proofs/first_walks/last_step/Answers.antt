use Rattle.tcc_graph.proofs.Pairs.{pair_below}
use Rattle.tcc_first.proofs.LastSteps.{last_from, none_from}
use Rattle.tcc_first.proofs.first_walks.last_step.Goals as goal

pub first_step-requires-clause-from : goal.first_step-requires-clause-from
first_step-requires-clause-from c = (pair_below c.args.graph.now c.in-Some.start c.args.end c.in-Some.ensures.0.0).0

pub first_step-requires-clause-pair : goal.first_step-requires-clause-pair
first_step-requires-clause-pair c = c.in-Some.ensures.0.0

pub returns : goal.returns
returns c =
    last_from c.args.graph.now c.args.lengths.now c.args.from c.args.end c.args.left c.in-Some.start c.first_step.result c.in-Some.ensures.0.1
    c.in-Some.ensures.1 c.first_step.ensures

pub returns-in_default : goal.returns-in_default
returns-in_default c = none_from c.args.graph.now c.args.lengths.now c.args.from c.args.end c.args.left c.in_default.ensures
