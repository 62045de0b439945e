use Rattle.std.proofs.Common.{rules, ◌≡◌, ◌≢◌, ◌≤◌, ◌<◌, ◌+◌, ◌↔◌, ℕ, true, length, replicate, slice_index, ◌∙◌, arith, take_at, sym}
use Rattle.std.proofs.lemmas.List.{get_or-replicate, length-replicate}
use Rattle.std.specs.List.{Contains}
use Rattle.tcc_bits.specs.Bits.{is_marked}
use Rattle.tcc_near.specs.private.Breadth.{IsSearched, IsRound, IsLedTo}
use Rattle.tcc_bits.proofs.BitLemmas.{none_marked}
use Rattle.tcc_near.proofs.BreadthLemmas.{searched_at_start, unnumbered_at_start, searched_more, row_at_end, row_covered, row_full, all_numbered, closed_more}
use Rattle.tcc_near.proofs.FreshLemmas.{none_fresh, fresh_below, marked_round, led_inside}
use Rattle.tcc_near.proofs.breadth_first.lengths_from.Goals.{After-is_empty}
use Rattle.tcc_near.proofs.breadth_first.lengths_from.Goals as goal
use Rattle.tcc_near.specs.declared.walk_lengths.TheConstants.{NONE}

pub loop-before-init : goal.loop-before-init
loop-before-init c =
    let h = c.args.pairs.now.history in
    let n = c.count.result in
    let made = c.in_ok-words.ensures in
    let steps : c.in_ok-steps.steps.items ≡ replicate n NONE = search rules in
    let seen : c.in_ok-seen.seen.items ≡ replicate c.len.result 0 = search rules in
    let long : c.len.result ≡ length c.in_ok-words.words.items = search rules in
    rw (steps, seen) (record {
      marks = made.marks;
      inside = made.inside;
      same = length-replicate c.len.result 0 ∙ long;
      seen = λ b below. (λ unseen. get_or-replicate n b NONE 0 (omega (arith, length-replicate n NONE)), λ none. none_marked c.len.result b);
      few = omega (arith, unnumbered_at_start n, c.count.ensures);
      searched = searched_at_start h c.args.source n c.count.ensures;
      within = omega arith;
      closed = λ b l some. absurd (omega arith);
      marked = made.marked;
    })

pub number_fresh-requires-clause-inside : goal.number_fresh-requires-clause-inside
number_fresh-requires-clause-inside c =
    let inv = c.loop-before.invariant in
    rw (c.deref.ensures.value, c.deref_mut.ensures.value) (λ b m. omega (arith, inv.inside b m, inv.searched.long))

pub number_fresh-requires-clause-seen : goal.number_fresh-requires-clause-seen
number_fresh-requires-clause-seen c = rw (c.deref_mut.ensures.value, c.deref_mut-in-loop-before.ensures.value) c.loop-before.invariant.seen

-- ---- one round more
round : (c : After-is_empty)
    → IsRound c.loop-before.words.items c.loop-before.steps.items c.number_fresh.new.steps c.number_fresh.new.seen c.number_fresh.new.fresh.items
    (c.loop-before.before + 1)
round c = rw (c.deref_mut.ensures.value, c.deref.ensures.value) at c.in_ok-number_fresh.ensures.round

searched : (c : After-is_empty) → IsSearched c.args.pairs.now.history c.args.source (c.loop-before.before + 1) c.number_fresh.new.steps
searched c =
    let inv = c.loop-before.invariant in
    let same = rw c.deref_mut.ensures.value at c.number_fresh.ensures.long in
    searched_more c.args.pairs.now.history c.args.source c.loop-before.before c.loop-before.steps.items c.number_fresh.new.steps c.loop-before.words.items
    inv.searched inv.marked (omega (arith, c.requires.pairs.few, c.count.ensures)) same (round c).each

-- the row of lengths is as long as it was
whole : (c : After-is_empty) → length c.number_fresh.new.steps ≡ c.loop-before.steps.len
whole c =
    let long : c.loop-before.steps.len ≡ length c.loop-before.steps.items = search rules in
    (searched c).long ∙ sym (long ∙ c.loop-before.invariant.searched.long)

pub returns-then-is_empty : goal.returns-then-is_empty
returns-then-is_empty c =
    let after = (goal.at.returns-then-is_empty c).After-is_empty in
    let inv = c.loop-before.invariant in
    let new = c.number_fresh.new.steps in
    let empty : length c.number_fresh.new.fresh.items ≡ 0 = search rules in
    rw (c.new.ensures, take_at new _ c.loop-before.steps.len (whole after))
    (row_at_end c.args.pairs.now.history c.args.source c.loop-before.before c.loop-before.steps.items new c.loop-before.words.items inv.searched inv.marked
    (omega (arith, c.count.ensures)) (none_fresh (round after) empty) (searched after))

-- ---- what can be reached
-- before the next one that is open
closed : (c : After-is_empty) (next : ℕ)
    → ((b : ℕ) → c.loop-before.next ≤ b → b < next → slice_index c.args.bound.now b ≢ NONE → slice_index c.number_fresh.new.steps b ≢ NONE)
    → (b : ℕ) → b < next → slice_index c.args.bound.now b ≢ NONE → slice_index c.number_fresh.new.steps b ≢ NONE
closed c next after =
    closed_more c.loop-before.steps.items c.number_fresh.new.steps c.loop-before.words.items c.args.bound.now (c.loop-before.before + 1) c.loop-before.next
    (omega (arith, c.requires.pairs.few, c.count.ensures)) (round c).each c.loop-before.invariant.closed next after

pub next_open-next-requires-clause-same : goal.next_open-next-requires-clause-same
next_open-next-requires-clause-same c =
    let after = (goal.at.next_open-next-requires-clause-same c).After-is_empty in
    rw (c.as_slice.ensures.value, take_at c.number_fresh.new.steps _ c.loop-before.steps.len (whole after))
    (c.requires.bound.long ∙ sym (searched after).long)

pub returns-then-next-bound : goal.returns-then-next-bound
returns-then-next-bound c =
    let after = (goal.at.returns-then-next-bound c).After-is_empty in
    let new = c.number_fresh.new.steps in
    let all : c.next_open-next.result ≡ length c.args.bound.now = search rules in
    let next = rw (c.as_slice.ensures.value, take_at new _ c.loop-before.steps.len (whole after)) at c.next_open-next.ensures.closed in
    rw (c.new-then-next-bound.ensures, take_at new _ c.loop-before.steps.len (whole after))
    (row_covered c.args.pairs.now.history c.args.source (c.loop-before.before + 1) new c.args.bound.now (searched after) (omega (arith, c.count.ensures))
    c.requires.bound (λ b l some. closed after c.next_open-next.result next b (omega (arith, l, all)) some))

pub spread-requires-clause-below : goal.spread-requires-clause-below
spread-requires-clause-below c =
    rw c.deref-in-loop-before.ensures.value
    (fresh_below (round (goal.at.spread-requires-clause-below c).After-is_empty) c.loop-before.invariant.inside)

pub spread-requires-clause-marks : goal.spread-requires-clause-marks
spread-requires-clause-marks c =
    rw (c.deref_mut-in-loop-before-2.ensures.value, c.deref_mut-in-loop-before-3.ensures.value) c.loop-before.invariant.marks

pub loop-before-preserved : goal.loop-before-preserved
loop-before-preserved c =
    let after = (goal.at.loop-before-preserved c).After-is_empty in
    let h = c.args.pairs.now.history in
    let inv = c.loop-before.invariant in
    let fresh = c.number_fresh.new.fresh.items in
    let met = c.number_fresh.new.seen in
    let next = c.spread.new.words in
    let marks = c.spread.ensures.marks in
    let led : (b : ℕ) → (is_marked next b ≡ true) ↔ IsLedTo h c.loop-before.words.items (Contains fresh) b =
    rw (c.deref-in-loop-before.ensures.value, c.deref_mut-in-loop-before-2.ensures.value) at c.spread.ensures.each in
    let some : 0 < length fresh = search (rules, c.if-is_empty.false, c.is_empty.ensures) in
    let open_next = rw (c.as_slice.ensures.value, take_at c.number_fresh.new.steps _ c.loop-before.steps.len (whole after)) at c.next_open-next.ensures.closed in
    let met_same : length met ≡ length c.loop-before.seen.items = search rules in
    let seen_long : c.loop-before.seen.len ≡ length c.loop-before.seen.items = search rules in
    let marks_long : c.loop-before.words.len ≡ length c.loop-before.words.items = search rules in
    let tails_long : c.loop-before.suffixes.len ≡ length c.loop-before.suffixes.items = search rules in
    rw (
      take_at c.number_fresh.new.steps _ c.loop-before.steps.len (whole after),
      take_at met _ c.loop-before.seen.len (met_same ∙ sym seen_long),
      take_at next _ c.loop-before.words.len (marks.wide ∙ sym (marks_long ∙ inv.marks.wide)),
      take_at c.spread.new.suffixes _ c.loop-before.suffixes.len (marks.long ∙ sym (tails_long ∙ inv.marks.long)),
    ) (record {
      marks = marks;
      inside = led_inside h c.loop-before.words.items next (Contains fresh) inv.inside led;
      same = met_same ∙ (inv.same ∙ (inv.marks.wide ∙ sym marks.wide));
      seen = (round after).seen;
      few = omega (arith, (round after).fewer some, inv.few);
      searched = searched after;
      within = c.next_open-next.ensures.within;
      closed = closed after c.next_open-next.result open_next;
      marked = marked_round (round after) inv.inside inv.searched inv.marked (searched after) (omega (arith, c.requires.pairs.few, c.count.ensures)) led;
    })

pub returns : goal.returns
returns c =
    let inv = c.loop-before.invariant in
    let steps = c.loop-before.steps.items in
    rw c.new-2.ensures (row_full c.args.pairs.now.history c.args.source c.loop-before.before steps inv.searched (omega (arith, c.count.ensures))
    (all_numbered steps (omega (arith, inv.few, c.count.ensures))))
