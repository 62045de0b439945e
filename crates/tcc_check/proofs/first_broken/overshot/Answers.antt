-- One group after the other, up to the first that costs too many steps.
use Rattle.std.proofs.Common.{◌≡◌, ◌<◌, ◌+◌, ℕ, List, length, get_or, take, arith, refl, sym, ap, subst, ◌∙◌}
use Rattle.std.specs.Prelude.{All}
use Rattle.tcc_check.specs.private.Groups.{links_by, total}
use Rattle.tcc_check.specs.private.Searches.{IsFoundBelow, IsOvershot, IsOvershotAt}
use Rattle.tcc_check.specs.private.Weights.{AreByWeight}
use Rattle.tcc_check.proofs.Grouped.{group_begins, group_below, group_fits, group_left, group_weight, groups_end, total-more}
use Rattle.tcc_check.proofs.Overshot.{all_over, more_group, none_over, rest_over}
use Rattle.tcc_check.proofs.first_broken.overshot.Goals as goal

pub loop-weight-init : goal.loop-weight-init
loop-weight-init c = record {
  left = refl;
  seen = none_over (links_by c.parts.result.1.now c.parts.result.0.now) c.args.row.now c.args.low c.args.before;
}

pub split_at-requires : goal.split_at-requires
split_at-requires c =
    group_fits c.parts.result.1.now c.parts.result.0.now c.parts.ensures.groups c.loop-weight.weight-index c.loop-weight-test.true c.loop-weight.left.now
    c.loop-weight.invariant.left

pub returns-then-from-cost : goal.returns-then-from-cost
returns-then-from-cost c =
    let groups = c.parts.result.1.now in
    let ends = c.parts.result.0.now in
    let row = c.args.row.now in
    let low = c.args.low in
    let i = c.loop-weight.weight-index in
    let begins = group_begins groups ends c.parts.ensures.groups i c.loop-weight-test.true in
    let weight = group_weight groups ends c.parts.ensures.groups i c.loop-weight-test.true in
    let sorted : AreByWeight (links_by groups ends) = subst (λ (links : List (ℕ × ℕ)). AreByWeight links) (sym c.parts.ensures.all) c.requires.sorted in
    subst (λ (links : List (ℕ × ℕ)). IsFoundBelow (low + length row) (IsOvershot links row low c.args.before) c.loop-weight.found) c.parts.ensures.all
    (rest_over (links_by groups ends) row low c.args.before (total (take i groups)) c.args.most c.loop-weight.found begins sorted c.requires.capped
    (omega (arith, weight, c.if-from-cost.true, c.from.ensures, c.from-in-loop-weight.ensures, c.from-in-loop-weight-2.ensures))
    c.loop-weight.invariant.seen)

pub overshot_at-requires : goal.overshot_at-requires
overshot_at-requires c =
    let groups = c.parts.result.1.now in
    let ends = c.parts.result.0.now in
    let row = c.args.row.now in
    let low = c.args.low in
    let i = c.loop-weight.weight-index in
    let all : All (λ (link : ℕ × ℕ). link.0 < low + length row) (links_by groups ends) =
    subst (λ (links : List (ℕ × ℕ)). All (λ (link : ℕ × ℕ). link.0 < low + length row) links) (sym c.parts.ensures.all) c.requires.inside in
    group_below groups ends c.parts.ensures.groups i c.split_at.result.0.now c.loop-weight-test.true
    (c.split_at.ensures.front ∙ ap (take (get_or groups i (0, 0)).1) c.loop-weight.invariant.left) (low + length row) all

pub loop-weight-preserved : goal.loop-weight-preserved
loop-weight-preserved c =
    let groups = c.parts.result.1.now in
    let ends = c.parts.result.0.now in
    let row = c.args.row.now in
    let low = c.args.low in
    let i = c.loop-weight.weight-index in
    let group : ℕ × ℕ = get_or groups i (0, 0) in
    let run = c.split_at.result.0.now in
    let next : total (take (i + 1) groups) ≡ total (take i groups) + group.1 = total-more groups i c.loop-weight-test.true in
    let cost : c.from.result + 1 + c.from-in-loop-weight.result ≡ c.args.before + 1 + group.0 =
    omega (arith, c.from.ensures, c.from-in-loop-weight.ensures) in
    let new : IsFoundBelow (low + length row) (IsOvershotAt run row low (c.args.before + 1 + group.0)) c.overshot_at.result =
    subst (λ (z : ℕ). IsFoundBelow (low + length row) (IsOvershotAt run row low z) c.overshot_at.result) cost c.overshot_at.ensures in
    record {
      left =
          group_left groups ends c.parts.ensures.groups i c.loop-weight-test.true c.loop-weight.left.now c.loop-weight.invariant.left
          c.split_at.result.1.now c.split_at.ensures.back;
      seen =
          rw (c.lesser-found.ensures, next)
          (more_group groups ends c.parts.ensures.groups row low c.args.before i run c.loop-weight-test.true
          (c.split_at.ensures.front ∙ ap (take group.1) c.loop-weight.invariant.left)
          c.loop-weight.found c.overshot_at.result c.loop-weight.invariant.seen new);
    }

pub returns : goal.returns
returns c =
    let groups = c.parts.result.1.now in
    let ends = c.parts.result.0.now in
    let row = c.args.row.now in
    let low = c.args.low in
    let i = c.loop-weight.weight-index in
    let all = groups_end groups ends c.parts.ensures.groups i (omega arith) in
    subst (λ (links : List (ℕ × ℕ)). IsFoundBelow (low + length row) (IsOvershot links row low c.args.before) c.loop-weight.found) c.parts.ensures.all
    (all_over (links_by groups ends) row low c.args.before (total (take i groups)) c.loop-weight.found all c.loop-weight.invariant.seen)
