use Rattle.std.proofs.Common.{rules, ◌≡◌, ◌<◌, ◌≤◌, ◌+◌, ◌-◌, ◌∷◌, [], ℕ, true, false, List, length, length-append, drop, get_or, set, slice_index, replicate, sym, ap, ◌∙◌, subst, arith}
use Rattle.std.proofs.lemmas.List.{get_or_default}
use Rattle.tcc_reads.specs.History.{count}
use Rattle.tcc_survey.specs.Circles.{IsCircle}
use Rattle.tcc_survey.specs.private.Circling.{IsTrail}
use Rattle.tcc_survey.proofs.CircleLemmas.{comes_again, trail_circle, trail_more, trail_none, trail_short}
use Rattle.tcc_survey.proofs.circle.circle_of.Goals as goal

pub loop-seen-init : goal.loop-seen-init
loop-seen-init c =
    let h = c.args.graph.now in
    let none : c.in_ok-seen.seen.items ≡ replicate c.count.result false = c.in_ok-seen.ensures in
    let first = c.first_left-at.ensures in
    subst (λ (trail : List ℕ). IsTrail h c.args.placed.now c.in_ok-seen.seen.items trail c.first_left-at.result) (sym c.new-trail.ensures.items)
    (trail_none h c.args.placed.now c.in_ok-seen.seen.items c.first_left-at.result c.count.result c.count.ensures.value none first.0 first.1)

pub loop-seen-preserved : goal.loop-seen-preserved
loop-seen-preserved c =
    let h = c.args.graph.now in
    let seen = c.loop-seen.seen.items in
    let at = c.loop-seen.at in
    let new : get_or c.loop-seen.seen.items c.loop-seen.at false ≡ false = search rules in
    let next = c.left_before-at.ensures in
    subst (λ (trail : List ℕ). IsTrail h c.args.placed.now (set seen at true) trail c.left_before-at.result) (sym c.in_ok-push.ensures.items)
    (trail_more h c.args.placed.now seen c.loop-seen.trail.items at c.loop-seen.invariant new c.left_before-at.result next.0 next.1 next.2)

pub loop-seen-smaller : goal.loop-seen-smaller
loop-seen-smaller c =
    let h = c.args.graph.now in
    let longer : length c.push.new.self.items ≡ length c.loop-seen.trail.items + 1
    = ap (λ (z : List ℕ). length z) c.in_ok-push.ensures.items ∙ length-append c.loop-seen.trail.items (c.loop-seen.at ∷ []) in
    let short : length c.push.new.self.items ≤ count h
    = trail_short h c.args.placed.now (set c.loop-seen.seen.items c.loop-seen.at true) c.push.new.self.items c.left_before-at.result (loop-seen-preserved c) in
    let less : count h - length c.push.new.self.items < count h - length c.loop-seen.trail.items = omega (arith, longer, short) in
    less

pub trail_from-requires : goal.trail_from-requires
trail_from-requires c =
    let inside : c.loop-seen.at < length c.loop-seen.seen.items = omega (arith, c.loop-seen.invariant.below, c.loop-seen.invariant.long) in
    let old : get_or c.loop-seen.seen.items c.loop-seen.at false ≡ true
    = get_or_default c.loop-seen.seen.items c.loop-seen.at false c.index.result.now inside ∙ (sym c.index.ensures ∙ c.loop-seen-test.false) in
    rw c.deref.ensures.value
    (comes_again c.args.graph.now c.args.placed.now c.loop-seen.seen.items c.loop-seen.trail.items c.loop-seen.at c.loop-seen.invariant old)

pub returns : goal.returns
returns c =
    let h = c.args.graph.now in
    let at = c.loop-seen.at in
    let value : c.deref.result.now ≡ c.loop-seen.trail.items = c.deref.ensures.value in
    let inside : c.loop-seen.at < length c.loop-seen.seen.items = omega (arith, c.loop-seen.invariant.below, c.loop-seen.invariant.long) in
    let old : get_or c.loop-seen.seen.items c.loop-seen.at false ≡ true
    = get_or_default c.loop-seen.seen.items c.loop-seen.at false c.index.result.now inside ∙ (sym c.index.ensures ∙ c.loop-seen-test.false) in
    let w : (start : ℕ) × (start < length c.deref.result.now) × (slice_index c.deref.result.now start ≡ at)
    × (c.in_ok-trail_from.field-0.items ≡ drop start c.deref.result.now) = c.in_ok-trail_from.ensures in
    let within : w.0 < length c.loop-seen.trail.items = subst (λ (z : List ℕ). w.0 < length z) value w.1 in
    let here : get_or c.loop-seen.trail.items w.0 0 ≡ at = subst (λ (z : List ℕ). get_or z w.0 0 ≡ at) value w.2 in
    subst (IsCircle h) (sym (w.3 ∙ ap (λ (z : List ℕ). drop w.0 z) value))
    (trail_circle h c.args.placed.now c.loop-seen.seen.items c.loop-seen.trail.items at c.loop-seen.invariant old w.0 within here)
