use Rattle.tcc_graph.specs.Levels.{judged}
use Rattle.tcc_judge.specs.Spanned.{IsLeadingBack, IsLedBack, IsMember, IsStaleKey}
use Rattle.tcc_judge.specs.private.Members.{IsMarked}
use Rattle.tcc_judge.proofs.MemberLemmas.{listed_same, stale_keys}
use Rattle.tcc_judge.proofs.NearMembers.{marked_leading, marked_led_back}
use Rattle.tcc_judge.proofs.Leastness.{has_all_below}
use Rattle.tcc_judge.proofs.least_by_order.narrow_on.Goals as goal

pub member_marks-requires-clause-sources : goal.member_marks-requires-clause-sources
member_marks-requires-clause-sources c =
    let found = c.args.found.now in
    rw c.deref-4.ensures.value
    (listed_same (IsMarked found.sources.items) (IsLeadingBack c.args.graph.now c.args.order.now) c.in_ok-sources.sources.items
    (marked_leading c.args.graph.now c.args.order.now c.args.positions.now c.requires.ordered c.requires.kept.positions_are found.lasts.items found.stale.items
    c.requires.found c.args.level c.args.most found.sources.items c.requires.leading)
    (rw c.deref.ensures.value at c.in_ok-sources.ensures))

pub member_marks-requires-clause-targets : goal.member_marks-requires-clause-targets
member_marks-requires-clause-targets c =
    let found = c.args.found.now in
    rw c.deref-5.ensures.value
    (listed_same (IsMarked c.in_ok-led.led.items) (IsLedBack c.args.graph.now c.args.order.now) c.in_ok-targets.targets.items
    (marked_led_back c.args.graph.now c.args.order.now c.args.positions.now c.requires.ordered c.requires.kept.positions_are found.lasts.items found.stale.items
    c.requires.found c.in_ok-led.led.items (rw (c.count.ensures.value, c.deref-2.ensures.value) at c.in_ok-led.ensures))
    (rw c.deref-3.ensures.value at c.in_ok-targets.ensures))

pub returns : goal.returns
returns c =
    let found = c.args.found.now in
    has_all_below c.args.graph.now c.args.level c.args.order.now c.args.positions.now c.requires.ordered c.requires.kept c.args.most
    c.in_ok-members.members.items c.in_ok-key_indices.key_indices.items
    (listed_same (IsMarked c.in_ok-marks.marks.items) (IsMember (judged c.args.graph.now c.args.level) c.args.order.now c.args.positions.now c.args.most)
    c.in_ok-members.members.items c.in_ok-marks.ensures (rw c.deref-6.ensures.value at c.in_ok-members.ensures))
    (listed_same (IsMarked found.stale.items) (IsStaleKey c.args.graph.now) c.in_ok-key_indices.key_indices.items
    (stale_keys c.args.graph.now c.args.order.now c.args.positions.now found.lasts.items found.stale.items c.requires.found)
    (rw c.deref-7.ensures.value at c.in_ok-key_indices.ensures))
