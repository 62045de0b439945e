use Rattle.tcc_check.proofs.Grouped.{AreGroupsTo}
use Rattle.tcc_check.proofs.groups.Groups.new.Given as goal

abbrev pub invariant-loop-member : goal.invariant-loop-member
invariant-loop-member l = AreGroupsTo l.member-index l.all l.groups.items l.by l.count l.members.items
