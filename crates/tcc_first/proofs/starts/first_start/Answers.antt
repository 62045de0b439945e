use Rattle.std.proofs.Common.{ℕ, subst, arith}
use Rattle.tcc_graph.specs.Levels.{judged}
use Rattle.tcc_least.specs.Shapes.{NoneBelow}
use Rattle.tcc_least.proofs.Built.{one_at_least}
use Rattle.tcc_first.proofs.Around.{none_around, starts_around}
use Rattle.tcc_first.proofs.starts.first_start.Goals as goal

pub loop-steps-init : goal.loop-steps-init
loop-steps-init c = one_at_least c.args.graph.now

pub loop-steps-preserved : goal.loop-steps-preserved
loop-steps-preserved c = λ level.
    none_around (judged c.args.graph.now level) c.numbered.ensures.numbered c.loop-steps.steps (omega arith) (c.loop-steps.invariant level) c.in_default.ensures

pub returns-in-Some : goal.returns-in-Some
returns-in-Some c = λ level.
    let (below, around, first) = c.in-Some.ensures in (
      below,
      starts_around (judged c.args.graph.now level) c.numbered.ensures.numbered c.loop-steps.steps (omega arith) (c.loop-steps.invariant level)
          c.in-Some.start around first,
      omega arith,
    )

pub returns : goal.returns
returns c = λ level. subst (λ (n : ℕ). NoneBelow (judged c.args.graph.now level) n) (omega (arith, c.loop-steps-test.false)) (c.loop-steps.invariant level)
