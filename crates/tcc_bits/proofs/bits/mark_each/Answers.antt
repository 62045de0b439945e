use Rattle.std.proofs.Common.{◌<◌, ◌/◌, ◌∙◌, get_or, length, arith, refl}
use Rattle.std.proofs.lemmas.List.{take_all}
use Rattle.tcc_bits.proofs.MarkLemmas.{mark_more, marks_none}
use Rattle.tcc_bits.proofs.bits.mark_each.Goals as goal

pub loop-number-init : goal.loop-number-init
loop-number-init c = (refl, marks_none c.args.words.now c.args.numbers.now)

pub mark-requires : goal.mark-requires
mark-requires c =
    let inside : get_or c.args.numbers.now c.loop-number.number-index 0 / 64 < length c.args.words.now =
    c.requires c.loop-number.number-index 0 c.loop-number-test.true in
    omega (arith, inside, c.loop-number.invariant.0)

pub loop-number-preserved : goal.loop-number-preserved
loop-number-preserved c =
    let inv = c.loop-number.invariant in (
      c.mark.ensures.same ∙ inv.0,
      mark_more c.args.words.now c.loop-number.words c.mark.new.words c.args.numbers.now c.loop-number.number-index
          c.loop-number-test.true inv.1 c.mark.ensures.each,
    )

pub returns-clause-each : goal.returns-clause-each
returns-clause-each c = rw (take_all c.loop-number.number-index c.args.numbers.now c.loop-number-test.false) at c.loop-number.invariant.1
