use Rattle.std.proofs.Common.{◌/◌, length}
use Rattle.tcc_reads.specs.History.{count}
use Rattle.tcc_lanes.specs.declared.limits.TheConstants.{MOST_MEMBERS, MOST_SWEPT}
use Rattle.tcc_judge.specs.Spanned.{IsLeadingBack, IsLedBack}
use Rattle.tcc_judge.specs.private.Members.{AreMarkedLed, AreThose, IsMarked}
use Rattle.tcc_judge.proofs.MemberLemmas.{those_same}
use Rattle.tcc_judge.proofs.NearMembers.{few_members, marked_leading, marked_led_back, too_many_members, too_many_sources, too_many_targets}
use Rattle.tcc_judge.proofs.least_by_order.members.Goals.{In_ok-led, In-Some, In-Some-2}
use Rattle.tcc_judge.proofs.least_by_order.members.Goals as goal

leads : (c : In_ok-led) → AreMarkedLed (count c.args.graph.now) c.args.order.now c.args.found.now.lasts.items (length c.args.order.now) c.in_ok-led.led.items
leads c = rw (c.count.ensures.value, c.deref-2.ensures.value) at c.in_ok-led.ensures

sources : (c : In-Some) → AreThose (MOST_SWEPT / c.args.most) (IsLeadingBack c.args.graph.now c.args.order.now) c.in-Some.sources.items
sources c =
    let found = c.args.found.now in
    those_same (MOST_SWEPT / c.args.most) (IsMarked found.sources.items) (IsLeadingBack c.args.graph.now c.args.order.now) c.in-Some.sources.items
    (marked_leading c.args.graph.now c.args.order.now c.args.positions.now c.requires.ordered c.requires.positions found.lasts.items found.stale.items
    c.requires.found c.args.level c.args.most found.sources.items c.requires.leading)
    (rw (c.in-Some.is, c.deref.ensures.value) at c.in_ok-sources.ensures)

targets : (c : In-Some-2) → AreThose MOST_MEMBERS (IsLedBack c.args.graph.now c.args.order.now) c.in-Some-2.targets.items
targets c =
    let found = c.args.found.now in
    those_same MOST_MEMBERS (IsMarked c.in_ok-led.led.items) (IsLedBack c.args.graph.now c.args.order.now) c.in-Some-2.targets.items
    (marked_led_back c.args.graph.now c.args.order.now c.args.positions.now c.requires.ordered c.requires.positions found.lasts.items found.stale.items
    c.requires.found c.in_ok-led.led.items (rw (c.count.ensures.value, c.deref-2.ensures.value) at c.in_ok-led.ensures))
    (rw (c.in-Some-2.is, c.deref-3.ensures.value) at c.in_ok-targets.ensures)

pub returns-in_default : goal.returns-in_default
returns-in_default c =
    let found = c.args.found.now in
    too_many_sources c.args.graph.now c.args.order.now c.args.positions.now c.requires.ordered c.requires.positions found.lasts.items found.stale.items
    c.requires.found c.args.level c.args.most found.sources.items c.requires.leading
    (rw (c.in_default.is, c.deref.ensures.value) at c.in_ok-sources.ensures)

pub returns-in_default-2 : goal.returns-in_default-2
returns-in_default-2 c =
    let found = c.args.found.now in
    let at = goal.at.returns-in_default-2 c in
    too_many_targets c.args.graph.now c.args.order.now c.args.positions.now c.requires.ordered c.requires.positions found.lasts.items found.stale.items
    c.requires.found c.args.level c.args.most c.in_ok-led.led.items (leads at.In_ok-led)
    (rw (c.in_default-2.is, c.deref-3.ensures.value) at c.in_ok-targets.ensures)

pub member_marks-requires-clause-sources : goal.member_marks-requires-clause-sources
member_marks-requires-clause-sources c =
    let at = goal.at.member_marks-requires-clause-sources c in
    rw c.deref-4.ensures.value (sources at.In-Some).listed

pub member_marks-requires-clause-targets : goal.member_marks-requires-clause-targets
member_marks-requires-clause-targets c =
    let at = goal.at.member_marks-requires-clause-targets c in
    rw c.deref-5.ensures.value (targets at.In-Some-2).listed

pub returns-in_default-3 : goal.returns-in_default-3
returns-in_default-3 c =
    let found = c.args.found.now in
    too_many_members c.args.graph.now c.args.order.now c.args.positions.now c.requires.ordered c.requires.positions found.lasts.items found.stale.items
    c.requires.found c.args.level c.args.most c.in_ok-marks.marks.items c.in_ok-marks.ensures
    (rw (c.in_default-3.is, c.deref-6.ensures.value) at c.in_ok-members.ensures)

pub returns : goal.returns
returns c =
    let found = c.args.found.now in
    let at = goal.at.returns c in
    few_members c.args.graph.now c.args.order.now c.args.positions.now c.requires.ordered c.requires.positions found.lasts.items found.stale.items
    c.requires.found c.args.level c.args.most c.in_ok-marks.marks.items c.in_ok-marks.ensures c.in-Some.sources.items c.in-Some-2.targets.items c.in-Some-3.members.items
    (sources at.In-Some) (targets at.In-Some-2) (rw (c.in-Some-3.is, c.deref-6.ensures.value) at c.in_ok-members.ensures)
