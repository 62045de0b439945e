use Rattle.tcc_judge.specs.private.Members.{AreMarkedLed}
use Rattle.tcc_judge.proofs.members.marked_led.Given as goal

abbrev pub invariant-loop-place : goal.invariant-loop-place
invariant-loop-place l = AreMarkedLed l.count l.order l.lasts l.place l.marks.items
