use Rattle.std.proofs.Common.{below_more, sym, ◌∙◌, arith}
use Rattle.std.proofs.lemmas.Bool.{false≢true}
use Rattle.tcc_first.proofs.Around.{around_below}
use Rattle.tcc_first.proofs.starts.first_around.Goals as goal

pub returns : goal.returns
returns c = λ s around.
    c.loop-start.invariant s
    (omega (arith, around_below c.args.graph.now c.args.steps s around, c.loop-start-test.false, c.count-start-end.ensures.value)) around

pub loop-start-preserved : goal.loop-start-preserved
loop-start-preserved c = below_more _ _ c.loop-start.invariant (λ is. false≢true (sym c.if-is_around.false ∙ c.is_around.ensures.1 is))
