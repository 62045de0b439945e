use Rattle.std.proofs.Common.{arith}
use Rattle.tcc_first.proofs.LongLemmas.{nearest_of}
use Rattle.tcc_first.proofs.cheapest.nearest_contradicted.Goals as goal

pub returns-then-most-steps : goal.returns-then-most-steps
returns-then-most-steps c = λ m some low x d is. c.fewest_steps-steps.ensures.none m some (omega (arith, low, c.if-most-steps.true)) x d is

pub returns : goal.returns
returns c =
    nearest_of c.args.graph.now c.args.lengths.now c.args.from c.args.source c.args.most c.fewest_steps-steps.result (omega (arith, c.if-most-steps.false))
    c.requires.few c.fewest_steps-steps.ensures.none c.fewest_steps-steps.ensures.some c.first_contradicted.result c.first_contradicted.ensures
