use Rattle.tcc_judge.specs.private.Members.{AreMarkedUnder, IsFar}
use Rattle.tcc_judge.proofs.members.marked_under.Given as goal

abbrev pub invariant-loop-place : goal.invariant-loop-place
invariant-loop-place l = record {
  far : IsFar l.lasts l.place l.far;
  marks : AreMarkedUnder l.count l.order l.lasts l.place l.marks.items;
}
