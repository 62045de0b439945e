-- One more in the group that is open, or in a new one.
use Rattle.std.proofs.Common.{◌≡◌, ℕ, [], ◌∷◌, ◌++◌, get_or, arith, refl, rules, subst, sym}
use Rattle.tcc_check.proofs.Grouped.{AreGroupsTo, all-groups, group-grown, group-next}
use Rattle.tcc_check.proofs.groups.Groups.new.Goals as goal
use Rattle.tcc_check.proofs.groups.Groups.new.Goals.{then-not-goes_on+in_ok-close_group, else-not-goes_on}

pub overflow_add-count : goal.overflow_add-count
overflow_add-count c = elim c.if-not-goes_on.branch [
  | then-not-goes_on+in_ok-close_group w ↦ omega (arith, w.count-is)
  | else-not-goes_on w ↦ omega (arith, w.count-is, (c.goes_on.ensures.0 w.if-not-goes_on.false).1)
]

pub loop-member-preserved : goal.loop-member-preserved
loop-member-preserved c =
    let all = c.args.all.now in
    let i = c.loop-member.member-index in
    let one = get_or all i (0, 0) in
    let groups = c.loop-member.groups.items in
    let members = c.loop-member.members.items in
    let open_count = c.loop-member.count in
    let inv = c.loop-member.invariant in
    let pushed : c.push.new.self.items ≡ members ++ one.0 ∷ [] = search rules in
    let are : AreGroupsTo i all c.if-not-goes_on.groups.items one.1 c.if-not-goes_on.count members = elim c.if-not-goes_on.branch [
      | then-not-goes_on+in_ok-close_group w ↦ rw (w.groups-is, w.count-is)
          (group-next i all groups w.close_group.new.groups.items c.loop-member.by open_count one.1 members
          w.in_ok-close_group.ensures.some w.in_ok-close_group.ensures.none inv)
      | else-not-goes_on w ↦
          (let same : c.loop-member.by ≡ one.1 = sym (c.goes_on.ensures.0 w.if-not-goes_on.false).0 in
          rw (w.groups-is, w.count-is) (subst (λ (by : ℕ). AreGroupsTo i all groups by open_count members) same inv))
    ] in
    rw pushed (group-grown i all c.if-not-goes_on.groups.items one.1 c.if-not-goes_on.count one.0 members c.loop-member-test.true refl are)

pub invariant_of-result : goal.invariant_of-result
invariant_of-result c =
    (all-groups c.loop-member.member-index c.args.all.now c.loop-member.groups.items c.close_group-2.new.groups.items c.loop-member.by c.loop-member.count
    c.loop-member.members.items (omega (arith, c.loop-member-test.false, c.loop-member.auto.member-index-end))
    c.in_ok-close_group-2.ensures.some c.in_ok-close_group-2.ensures.none c.loop-member.invariant).1

pub returns : goal.returns
returns c =
    (all-groups c.loop-member.member-index c.args.all.now c.loop-member.groups.items c.close_group-2.new.groups.items c.loop-member.by c.loop-member.count
    c.loop-member.members.items (omega (arith, c.loop-member-test.false, c.loop-member.auto.member-index-end))
    c.in_ok-close_group-2.ensures.some c.in_ok-close_group-2.ensures.none c.loop-member.invariant).0
