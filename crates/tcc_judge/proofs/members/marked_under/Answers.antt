use Rattle.std.proofs.Common.{◌+◌}
use Rattle.tcc_judge.specs.private.Members.{IsFar}
use Rattle.tcc_judge.proofs.MemberLemmas.{far_more, under_more}
use Rattle.tcc_judge.proofs.members.marked_under.Goals as goal

pub loop-place-preserved : goal.loop-place-preserved
loop-place-preserved c =
    let lasts = c.args.lasts.now in
    let place = c.loop-place.place in
    let inv = c.loop-place.invariant in
    let far = c.max-far.result in
    let more : IsFar lasts (place + 1) far = rw c.max-far.ensures (far_more lasts place c.loop-place.far inv.far) in
    record {
      far = more;
      marks =
          under_more c.args.count c.args.order.now lasts c.requires.numbering place far c.loop-place.marks.items c.is_under.result c.loop-place-test.true more
          c.is_under.ensures inv.marks;
    }
