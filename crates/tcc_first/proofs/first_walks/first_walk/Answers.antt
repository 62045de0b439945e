use Rattle.std.proofs.Common.{ℕ, ◌+◌, ◌-◌, ◌<◌, ◌≤◌, ◌≡◌, [], ◌∷◌, length, length-append, get_or, sym, subst, arith}
use Rattle.tcc_graph.specs.Walks.{step_from}
use Rattle.tcc_graph.specs.Levels.{Judged, judged}
use Rattle.tcc_graph.proofs.Pairs.{step_below}
use Rattle.tcc_derive.specs.private.LeadingBack.{IsLeft, IsTakenBack}
use Rattle.tcc_derive.proofs.BackLemmas.{never_stuck, taken_more, left_of, left_at_end, nothing_taken, walk_of}
use Rattle.tcc_first.proofs.LongLemmas.{at_most, has_lengths, shortest_at}
use Rattle.tcc_first.proofs.first_walks.first_walk.Goals as goal

pub loop-done-init : goal.loop-done-init
loop-done-init c =
    let total = get_or c.args.lengths.now c.args.to 0 in
    let (level, most, few, are) = c.requires.lengths in
    let j : Judged = judged c.args.graph.now level in
    record {
      taken = rw c.new-taken.ensures.items (nothing_taken j c.args.from (most + 1) c.args.lengths.now (has_lengths j c.args.from most c.args.lengths.now few are) c.args.to total);
      long = rw c.new-taken.ensures.items (omega arith);
      left = λ l m few_m are_m.
          let all : total ≡ total - 0 = omega arith in
          subst (λ (n : ℕ). IsLeft (judged c.args.graph.now l) c.args.from c.args.to n) all
          (left_at_end (judged c.args.graph.now l) c.args.from (m + 1) c.args.lengths.now
          (has_lengths (judged c.args.graph.now l) c.args.from m c.args.lengths.now few_m are_m) c.args.to total
          (shortest_at (judged c.args.graph.now l) c.args.from m c.args.lengths.now few_m are_m c.args.to total c.requires.to (omega arith) c.requires.reached));
      below = c.requires.to;
    }

pub unreachable-requires : goal.unreachable-requires
unreachable-requires c =
    let b = c.args.from in
    let lengths = c.args.lengths.now in
    let total = get_or lengths c.args.to 0 in
    let done = c.loop-done.done in
    let (level, most, few, are) = c.requires.lengths in
    let j : Judged = judged c.args.graph.now level in
    let early : done < total = c.loop-done-test.true in
    let within : total ≤ most = at_most j b most lengths few are c.args.to c.requires.to c.requires.reached in
    let more : total - done ≡ total - done - 1 + 1 = omega arith in
    never_stuck j b (most + 1) lengths (has_lengths j b most lengths few are) c.loop-done.end (total - done - 1) (omega (arith, within))
    (subst (λ (n : ℕ). IsLeft j b c.loop-done.end n) more (c.loop-done.invariant.left level most few are)) c.in_default.ensures

pub loop-done-preserved : goal.loop-done-preserved
loop-done-preserved c =
    let b = c.args.from in
    let lengths = c.args.lengths.now in
    let total = get_or lengths c.args.to 0 in
    let done = c.loop-done.done in
    let taken = c.loop-done.taken.items in
    let step = c.in-Some.step in
    let inv = c.loop-done.invariant in
    let last = c.in-Some.ensures in
    let (level, most, few, are) = c.requires.lengths in
    let j : Judged = judged c.args.graph.now level in
    let early : done < total = c.loop-done-test.true in
    let within : total ≤ most = at_most j b most lengths few are c.args.to c.requires.to c.requires.reached in
    let more : total - done ≡ total - done - 1 + 1 = omega arith in
    let less : total - done - 1 ≡ total - (done + 1) = omega arith in
    let whole : total ≡ length taken + (total - done - 1 + 1) = omega (arith, inv.long) in
    let below = (step_below j.history step last.step).0 in
    rw (c.in_ok-push.ensures.items, c.from-end.ensures) (record {
      taken = taken_more j b (most + 1) lengths (has_lengths j b most lengths few are) c.args.to total c.loop-done.end (total - done - 1) taken step
          (omega (arith, within)) inv.taken (subst (λ (n : ℕ). IsLeft j b c.loop-done.end n) more (inv.left level most few are)) last whole;
      long = omega (arith, length-append taken (step ∷ []), inv.long);
      left = λ l m few_m are_m.
          let up : total ≤ m = at_most (judged c.args.graph.now l) b m lengths few_m are_m c.args.to c.requires.to c.requires.reached in
          rw less at
          (left_of (judged c.args.graph.now l) b (m + 1) lengths (has_lengths (judged c.args.graph.now l) b m lengths few_m are_m) (step_from step)
          (total - done - 1) below (omega (arith, up)) last.stands);
      below = below;
    })

pub returns : goal.returns
returns c = λ level most few are.
    let b = c.args.from in
    let lengths = c.args.lengths.now in
    let total = get_or lengths c.args.to 0 in
    let j : Judged = judged c.args.graph.now level in
    let inv = c.loop-done.invariant in
    let late : total ≤ c.loop-done.done = c.loop-done-test.false in
    let end : c.loop-done.done ≤ total = c.loop-done.auto.done-end in
    let none : total - c.loop-done.done ≡ 0 = omega arith in
    let back = subst (λ (v : ℕ). IsTakenBack j.history b c.args.to total v c.loop-done.taken.items) (sym ((inv.left level most few are).none none)) inv.taken in
    rw (c.new.ensures, c.reverse.ensures.items)
    (walk_of j b (most + 1) lengths (has_lengths j b most lengths few are) c.args.to total c.loop-done.taken.items back (omega (arith, inv.long))
    (shortest_at j b most lengths few are c.args.to total c.requires.to (omega arith) c.requires.reached))
