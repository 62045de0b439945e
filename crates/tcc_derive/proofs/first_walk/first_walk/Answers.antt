use Rattle.std.proofs.Common.{ℕ, ◌+◌, ◌-◌, ◌<◌, ◌≤◌, ◌≡◌, [], ◌∷◌, length, length-append, get_or, sym, subst, arith}
use Rattle.tcc_graph.specs.Walks.{step_from}
use Rattle.tcc_graph.specs.Levels.{Judged, judged}
use Rattle.tcc_derive.specs.private.LeadingBack.{IsLeft, IsTakenBack}
use Rattle.tcc_derive.proofs.BackLemmas.{HasLengths, lengths_of, never_stuck, taken_more, left_of, at_end, walk_of}
use Rattle.tcc_graph.proofs.Pairs.{step_below}
use Rattle.tcc_derive.proofs.first_walk.first_walk.Goals as goal
use Rattle.tcc_near.specs.declared.walk_lengths.TheConstants.{NONE}
use Rattle.tcc_graph.specs.Tables.{row_of}

pub unreachable-requires : goal.unreachable-requires
unreachable-requires c =
    let near = c.args.near.now in
    let j : Judged = judged c.args.graph.now near.level in
    let b = c.args.b in
    let total = get_or (row_of near.rows b) c.args.c 0 in
    let done = c.loop-done.done in
    let inv = rw c.row-steps.ensures.value at c.loop-done.invariant in
    let early : done < total = rw c.row-steps.ensures.value at c.loop-done-test.true in
    let more : total - done ≡ total - done - 1 + 1 = omega arith in
    let row = row_of near.rows b in
    let exact : HasLengths j b NONE row = lengths_of j near b c.requires.near c.requires.from in
    never_stuck j b NONE row exact c.loop-done.end (total - done - 1) (omega (arith, c.requires.reached)) (subst (λ (n : ℕ). IsLeft j b c.loop-done.end n) more inv.2)
    (rw c.row-steps.ensures.value at c.in_default.ensures)

pub loop-done-preserved : goal.loop-done-preserved
loop-done-preserved c =
    let near = c.args.near.now in
    let j : Judged = judged c.args.graph.now near.level in
    let b = c.args.b in
    let total = get_or (row_of near.rows b) c.args.c 0 in
    let done = c.loop-done.done in
    let taken = c.loop-done.taken.items in
    let step = c.in-Some.step in
    let inv = rw c.row-steps.ensures.value at c.loop-done.invariant in
    let last = rw c.row-steps.ensures.value at c.in-Some.ensures in
    let early : done < total = rw c.row-steps.ensures.value at c.loop-done-test.true in
    let more : total - done ≡ total - done - 1 + 1 = omega arith in
    let less : total - done - 1 ≡ total - (done + 1) = omega arith in
    let whole : total ≡ length taken + (total - done - 1 + 1) = omega (arith, inv.1) in
    let below = (step_below j.history step last.step).0 in
    let few : total - done - 1 < NONE = omega (arith, c.requires.reached) in
    let row = row_of near.rows b in
    let exact : HasLengths j b NONE row = lengths_of j near b c.requires.near c.requires.from in
    rw (c.row-steps.ensures.value, c.in_ok-push.ensures.items, c.from-end.ensures) (
      taken_more j b NONE row exact c.args.c total c.loop-done.end (total - done - 1) taken step few inv.0
          (subst (λ (n : ℕ). IsLeft j b c.loop-done.end n) more inv.2) last whole,
      omega (arith, length-append taken (step ∷ []), inv.1),
      rw less at (left_of j b NONE row exact (step_from step) (total - done - 1) below few last.stands),
      below,
    )

pub returns : goal.returns
returns c =
    let near = c.args.near.now in
    let j : Judged = judged c.args.graph.now near.level in
    let b = c.args.b in
    let total = get_or (row_of near.rows b) c.args.c 0 in
    let inv = rw c.row-steps.ensures.value at c.loop-done.invariant in
    let late : total ≤ c.loop-done.done = rw c.row-steps.ensures.value at c.loop-done-test.false in
    let end : c.loop-done.done ≤ total = rw c.row-steps.ensures.value at c.loop-done.auto.done-end in
    let none : total - c.loop-done.done ≡ 0 = omega arith in
    let back = subst (λ (v : ℕ). IsTakenBack j.history b c.args.c total v c.loop-done.taken.items) (sym (inv.2.none none)) inv.0 in
    rw (c.new.ensures, c.reverse.ensures.items)
    (walk_of j b NONE (row_of near.rows b) (lengths_of j near b c.requires.near c.requires.from) c.args.c total c.loop-done.taken.items back (omega (arith, inv.1))
    (at_end j near b c.requires.near c.requires.from c.args.c c.requires.to c.requires.reached))
