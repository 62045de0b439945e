use Rattle.std.proofs.lemmas.List.{take_all}
use Rattle.tcc_near.proofs.FreshLemmas.{led_none, led_more}
use Rattle.tcc_near.proofs.breadth_first.spread.Goals as goal

pub loop-number-init : goal.loop-number-init
loop-number-init c = (c.requires.marks, led_none c.args.pairs.now.history c.args.words.now c.args.fresh.now)

pub loop-number-preserved : goal.loop-number-preserved
loop-number-preserved c =
    let inv = c.loop-number.invariant in (
      c.take_in.ensures.marks,
      led_more c.args.pairs.now.history c.args.words.now c.loop-number.words c.take_in.new.words c.args.fresh.now c.loop-number.number-index
          c.loop-number-test.true inv.1 c.take_in.ensures.each,
    )

pub returns : goal.returns
returns c =
    let inv = rw (take_all c.loop-number.number-index c.args.fresh.now c.loop-number-test.false) at c.loop-number.invariant in
    record { marks = inv.0; each = inv.1 }
