-- One group after the other.
use Rattle.std.proofs.Common.{◌≡◌, ◌<◌, ◌+◌, ℕ, List, length, get_or, set, min, take, arith, refl, sym, ap, subst, ◌∙◌}
use Rattle.std.specs.Prelude.{All}
use Rattle.tcc_check.specs.private.Groups.{AreGroupsOf, links_by, total}
use Rattle.tcc_check.specs.private.Weights.{IsLowered}
use Rattle.tcc_check.specs.private.Readings.{ReadingWeighs}
use Rattle.tcc_check.proofs.Grouped.{group_below, group_fits, group_left, groups_end, total-more}
use Rattle.tcc_check.proofs.ByKey.{SeenReading, all-readings, group-lowered, group-passed, group-some, group-source, no-reading, source-lowered}
use Rattle.tcc_check.proofs.readings.lower_readings.Goals as goal
use Rattle.tcc_check.proofs.readings.lower_readings.Goals.{then-source-start, else-source-start}

pub loop-source-init : goal.loop-source-init
loop-source-init c = record {
  left = refl;
  lowered = no-reading (links_by c.parts.result.1.now c.parts.result.0.now) c.args.row.now c.args.start c.args.weights.now c.args.weights.now;
}

pub split_at-requires : goal.split_at-requires
split_at-requires c =
    group_fits c.parts.result.1.now c.parts.result.0.now c.parts.ensures.groups c.loop-source.source-index c.loop-source-test.true c.loop-source.left.now
    c.loop-source.invariant.left

pub least_for-least-requires-clause-readers : goal.least_for-least-requires-clause-readers
least_for-least-requires-clause-readers c =
    let groups = c.parts.result.1.now in
    let members = c.parts.result.0.now in
    let i = c.loop-source.source-index in
    let all : All (λ (one : ℕ × ℕ). one.0 < length c.args.row.now) (links_by groups members) =
    subst (λ (links : List (ℕ × ℕ)). All (λ (one : ℕ × ℕ). one.0 < length c.args.row.now) links) (sym c.parts.ensures.all) c.requires.readers in
    group_below groups members c.parts.ensures.groups i c.split_at.result.0.now c.loop-source-test.true
    (c.split_at.ensures.front ∙ ap (take (get_or groups i (0, 0)).1) c.loop-source.invariant.left) (length c.args.row.now) all

source-inside : (groups : List (ℕ × ℕ)) (members : List ℕ) (readings : List (ℕ × ℕ)) (weights now : List ℕ) (i : ℕ) → AreGroupsOf groups members
    → links_by groups members ≡ readings → All (λ (one : ℕ × ℕ). one.1 < length weights) readings → length now ≡ length weights → i < length groups
    → (get_or groups i (0, 0)).0 < length now
source-inside groups members readings weights now i are is all long inside =
    let sources : All (λ (one : ℕ × ℕ). one.1 < length weights) (links_by groups members) =
    subst (λ (links : List (ℕ × ℕ)). All (λ (one : ℕ × ℕ). one.1 < length weights) links) (sym is) all in
    omega (arith, group-source groups members are i (length weights) inside sources, long)

pub bounds-weights-source : goal.bounds-weights-source
bounds-weights-source c =
    source-inside c.parts.result.1.now c.parts.result.0.now c.args.readings.now c.args.weights.now c.loop-source.weights c.loop-source.source-index
    c.parts.ensures.groups c.parts.ensures.all c.requires.sources c.loop-source.auto.weights c.loop-source-test.true

pub bounds-weights-source-then-source-start : goal.bounds-weights-source-then-source-start
bounds-weights-source-then-source-start c =
    source-inside c.parts.result.1.now c.parts.result.0.now c.args.readings.now c.args.weights.now c.loop-source.weights c.loop-source.source-index
    c.parts.ensures.groups c.parts.ensures.all c.requires.sources c.loop-source.auto.weights c.loop-source-test.true

pub loop-source-preserved : goal.loop-source-preserved
loop-source-preserved c =
    let groups = c.parts.result.1.now in
    let members = c.parts.result.0.now in
    let row = c.args.row.now in
    let i = c.loop-source.source-index in
    let group : ℕ × ℕ = get_or groups i (0, 0) in
    let run = c.split_at.result.0.now in
    let old = c.args.weights.now in
    let now = c.loop-source.weights in
    let is = c.split_at.ensures.front ∙ ap (take group.1) c.loop-source.invariant.left in
    let source : group.0 < length now =
    source-inside groups members c.args.readings.now old now i c.parts.ensures.groups c.parts.ensures.all c.requires.sources c.loop-source.auto.weights
    c.loop-source-test.true in
    let next : total (take (i + 1) groups) ≡ total (take i groups) + group.1 = total-more groups i c.loop-source-test.true in
    let lowered : IsLowered (SeenReading (total (take i groups) + group.1) (links_by groups members) row c.args.start) old c.if-source-start.weights =
    elim c.if-source-start.branch [
      | then-source-start w ↦ rw (w.weights-is, w.min.ensures) (group-lowered groups members c.parts.ensures.groups row c.args.start i run
          c.loop-source-test.true is old now c.loop-source.invariant.lowered
          (set now group.0 (min (get_or now group.0 0) w.least_for-least.result)) w.if-source-start.true
          (source-lowered group.0 w.least_for-least.result run row now source (group-some groups members c.parts.ensures.groups i run c.loop-source-test.true is)
          (λ k. omega (arith, c.type_inv.row k)) w.least_for-least.ensures.low w.least_for-least.ensures.from))
      | else-source-start w ↦ rw w.weights-is (group-passed groups members c.parts.ensures.groups row c.args.start i run c.loop-source-test.true is old now
          c.loop-source.invariant.lowered w.if-source-start.false)
    ] in
    record {
      left =
          group_left groups members c.parts.ensures.groups i c.loop-source-test.true c.loop-source.left.now c.loop-source.invariant.left
          c.split_at.result.1.now c.split_at.ensures.back;
      lowered = rw next lowered;
    }

pub returns : goal.returns
returns c =
    let groups = c.parts.result.1.now in
    let members = c.parts.result.0.now in
    let row = c.args.row.now in
    let i = c.loop-source.source-index in
    let all = groups_end groups members c.parts.ensures.groups i (omega arith) in
    subst (λ (links : List (ℕ × ℕ)). IsLowered (ReadingWeighs links row c.args.start) c.args.weights.now c.loop-source.weights) c.parts.ensures.all
    (all-readings (links_by groups members) row c.args.start c.args.weights.now c.loop-source.weights (total (take i groups)) all
    c.loop-source.invariant.lowered)
