use Rattle.tcc_judge.specs.private.Members.{AreMarkedBoth}
use Rattle.tcc_judge.proofs.members.both_marked.Given as goal

abbrev pub invariant-loop-index : goal.invariant-loop-index
invariant-loop-index l = AreMarkedBoth l.one l.other l.index l.marks.items
