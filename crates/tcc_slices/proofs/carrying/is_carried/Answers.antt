use Rattle.std.proofs.Common.{arith, sym, ◌∙◌}
use Rattle.tcc_slices.proofs.CarriedOver.{carried, has_more}
use Rattle.tcc_slices.proofs.carrying.is_carried.Goals as goal

pub loop-number-preserved : goal.loop-number-preserved
loop-number-preserved c =
    has_more c.args.numbers.now c.args.small.now c.args.large.now c.loop-number.number c.loop-number.invariant (c.keeps.ensures.0 c.if-not-keeps.false)

pub returns-clause-told : goal.returns-clause-told
returns-clause-told c = λ is.
    carried c.args.numbers.now c.args.small.now c.args.large.now c.loop-number.number (omega (arith, c.loop-number-test.false, c.count-number-end.ensures.value))
    c.loop-number.invariant c.requires

pub returns-then-not-keeps-clause-kept : goal.returns-then-not-keeps-clause-kept
returns-then-not-keeps-clause-kept c = λ all.
    sym c.if-not-keeps.true ∙ c.keeps.ensures.1 (all c.loop-number.number (omega (arith, c.loop-number-test.true, c.count-number-end.ensures.value)))
