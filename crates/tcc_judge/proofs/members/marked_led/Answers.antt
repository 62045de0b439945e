use Rattle.tcc_judge.proofs.MemberLemmas.{led_more}
use Rattle.tcc_judge.proofs.members.marked_led.Goals as goal

pub loop-place-preserved : goal.loop-place-preserved
loop-place-preserved c =
    led_more c.args.count c.args.order.now c.args.lasts.now c.requires.numbering c.loop-place.place c.loop-place.marks.items c.loop-place-test.true
    c.loop-place.invariant
