use Rattle.tcc_judge.proofs.MemberLemmas.{AreMarkedTo}
use Rattle.tcc_judge.proofs.members.all_marked.Given as goal

abbrev pub invariant-loop-index : goal.invariant-loop-index
invariant-loop-index l = AreMarkedTo l.index l.marks l.index l.found.items
