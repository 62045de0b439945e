use Rattle.std.proofs.Common.{◌∙◌}
use Rattle.std.proofs.lemmas.List.{take_all}
use Rattle.tcc_order.proofs.Stepped.{adds_more}
use Rattle.tcc_order.proofs.atomic_links.keep_others.Goals as goal

pub loop-number-preserved : goal.loop-number-preserved
loop-number-preserved c = (
  c.in_ok-keep_other.ensures.same ∙ c.loop-number.invariant.0,
  adds_more c.args.writers.now c.args.a c.args.kept.now c.loop-number.kept c.args.numbers.now c.loop-number.number-index c.loop-number-test.true
      c.loop-number.invariant.1 c.keep_other.new.kept c.in_ok-keep_other.ensures.kept,
)

pub returns-clause-kept : goal.returns-clause-kept
returns-clause-kept c = rw (take_all c.loop-number.number-index c.args.numbers.now c.loop-number-test.false) at c.loop-number.invariant.1
