use Rattle.std.proofs.Common.{replicate, rules, ◌≡◌, ◌<◌, ◌==◌, ◌||◌, ◌∷◌, ◌++◌, ◌⊎◌, ℕ, true, false, [], length, length-append, sym, arith, take_at, ◌∙◌, refl}
use Rattle.std.specs.Prelude.{Contains}
use Rattle.std.proofs.lemmas.Bool.{false≢true}
use Rattle.std.proofs.lemmas.List.{length-replicate}
use Rattle.tcc_graph.specs.Tables.{row_of}
use Rattle.tcc_reads.specs.History.{count}
use Rattle.tcc_bits.specs.Bits.{is_marked, words_for}
use Rattle.tcc_bits.proofs.BitLemmas.{none_marked}
use Rattle.tcc_order.specs.private.Held.{holds, IsFreeBy, onward}
use Rattle.tcc_order.specs.private.Queued.{AreQueued, AreSure, IsAny, IsNot}
use Rattle.tcc_order.proofs.Greedy.{IsNext, Picks-push, Picks-first, Picks-order}
use Rattle.tcc_order.proofs.LeftOver.{stuck_placed}
use Rattle.tcc_order.proofs.EmptyRows.{nothing_kept}
use Rattle.tcc_order.proofs.Fronts.{holds_below, says_more, placed_free, free_placed, session_fronts}
use Rattle.tcc_order.proofs.QueuedLemmas.{all_ready, queued_begin, queued_popped, queued_after, sure_after}
use Rattle.tcc_order.proofs.kahn.first_placing.Goals.{After-first_ready}
use Rattle.tcc_order.proofs.kahn.first_placing.Goals as goal

-- the queue after those that were woken are examined
queued : (c : After-first_ready) → AreQueued (holds c.args.graph.now c.args.kept.now) c.args.parents.now c.loop.placed.items IsAny
    c.look_at_woken.new.queue.ready c.look_at_woken.new.queue.waiting
queued c = rw c.deref.ensures.value at c.in_ok-look_at_woken.ensures.queued

pub loop-init : goal.loop-init
loop-init c =
    let h = c.args.graph.now in
    let ps = c.args.parents.now in
    let n = words_for (count h) in
    let queue = c.in_ok-queue.queue in
    let marks : c.in_ok-placed.placed.items ≡ replicate n 0 = search rules in
    let empty : c.new-order.result.items ≡ [] = search rules in
    let long : length queue.waiting ≡ length ps = omega (arith, c.in_ok-queue.ensures.long, c.count-count.ensures.value, c.requires.parents.long) in
    let all : length queue.seen.items ≡ count h = omega (arith, c.in_ok-queue.ensures.seen, c.count-count.ensures.value) in
    rw (marks, empty) (
      length-replicate n 0,
      refl,
      λ x. none_marked n x,
      tt,
      all,
      queued_begin (holds h c.args.kept.now) ps (replicate n 0) queue.woken.items queue.ready queue.waiting long (nothing_kept queue.waiting c.in_ok-queue.ensures.waiting)
          c.in_ok-queue.ensures.ready (none_marked n) (λ x there. ((c.in_ok-queue.ensures.woken x).0 there).0)
          (λ x l root. (c.in_ok-queue.ensures.woken x).1 (l, root)),
      λ x there. absurd (c.in_ok-queue.ensures.ready x there),
    )

pub returns-in_default : goal.returns-in_default
returns-in_default c =
    let h = c.args.graph.now in
    let kept = c.args.kept.now in
    let placed = c.loop.placed.items in
    let done : (y : ℕ) → Contains c.look_at_woken.new.queue.ready y → is_marked placed y ≡ true = rw c.deref-in-loop.ensures.value at c.in_default.ensures.none in
    stuck_placed (holds h kept) (count h) placed c.loop.order.items c.loop.invariant.2 (holds_below h kept)
    (λ x free. false≢true (sym free.new ∙ done x (all_ready h kept c.args.parents.now c.requires.parents (queued (goal.at.returns-in_default c).After-first_ready) x free))) (omega (arith, c.loop.invariant.1))

pub mark-requires : goal.mark-requires
mark-requires c =
    let low = (queued (goal.at.mark-requires c).After-first_ready).inside c.in-Some.next c.in-Some.ensures.one.0 in
    rw c.deref_mut.ensures.value (omega (arith, low, c.requires.parents.long, c.loop.invariant.0))

pub wake-requires-clause-inside : goal.wake-requires-clause-inside
wake-requires-clause-inside c =
    (queued (goal.at.wake-requires-clause-inside c).After-first_ready).inside c.in-Some.next c.in-Some.ensures.one.0

pub loop-preserved : goal.loop-preserved
loop-preserved c =
    let h = c.args.graph.now in
    let kept = c.args.kept.now in
    let ps = c.args.parents.now in
    let held = holds h kept in
    let placed = c.loop.placed.items in
    let order = c.loop.order.items in
    let inv = c.loop.invariant in
    let next = c.in-Some.next in
    let marks = c.mark.new.words in
    let old = c.look_at_woken.new.queue.ready in
    let ready = c.first_ready.new.ready in
    let waiting = c.look_at_woken.new.queue.waiting in
    let woken = c.wake.new.woken.items in
    let fronts = session_fronts h kept ps c.requires.parents in
    let before : AreQueued held ps placed IsAny old waiting = queued (goal.at.loop-preserved c).After-first_ready in
    let sure : AreSure held placed old = rw c.deref.ensures.value at c.in_ok-look_at_woken.ensures.sure in
    let one : Contains old next × (is_marked placed next ≡ false) = rw c.deref-in-loop.ensures.value at c.in-Some.ensures.one in
    let first : (y : ℕ) → Contains old y → y < next → is_marked placed y ≡ true = rw c.deref-in-loop.ensures.value at c.in-Some.ensures.least in
    let rest : (y : ℕ) → Contains old y → is_marked placed y ≡ false → (y ≡ next) ⊎ Contains ready y = rw c.deref-in-loop.ensures.value at c.in-Some.ensures.rest in
    let still : (y : ℕ) → Contains ready y → Contains old y = c.in-Some.ensures.still in
    let free : IsFreeBy held (count h) placed next = record {
      below = omega (arith, before.inside next one.0, c.requires.parents.long);
      new = one.1;
      free = sure next one.0;
    } in
    let least : (y : ℕ) → y < next → IsFreeBy held (count h) placed y → ⊥
    = λ y less other. false≢true (sym other.new ∙ first y (all_ready h kept ps c.requires.parents before y other) less) in
    let popped : AreQueued held ps placed (IsNot next) ready waiting = queued_popped held ps placed old ready waiting next before rest still in
    let each : (b : ℕ) → is_marked marks b ≡ (is_marked placed b || (b == next)) = rw c.deref_mut.ensures.value at c.mark.ensures.each in
    let pushed : c.push.new.self.items ≡ order ++ next ∷ [] = search rules in
    let same : length marks ≡ length placed = rw c.deref_mut.ensures.value at c.mark.ensures.same in
    let long : c.loop.placed.len ≡ length placed = search rules in
    let wake : woken ≡ row_of waiting next ++ onward ps next ∷ [] = rw c.in_ok-look_at_woken.ensures.none at c.in_ok-wake.ensures in
    let is_next : IsNext held (count h) order next = record {
      free = free_placed held (count h) placed order inv.2 next free;
      least = λ y l f. least y l (placed_free held (count h) placed order inv.2 y f);
    } in
    rw (take_at marks _ c.loop.placed.len (same ∙ sym long), pushed) (
      same ∙ inv.0,
      omega (arith, length-append order (next ∷ []), inv.1),
      says_more placed marks order next inv.2 each,
      Picks-push held (count h) [] order next inv.3 is_next,
      c.in_ok-look_at_woken.ensures.seen,
      queued_after held (count h) ps fronts placed ready woken marks waiting next popped free each wake,
      sure_after held placed marks old ready next sure still each,
    )

pub returns : goal.returns
returns c =
    let h = c.args.graph.now in
    let kept = c.args.kept.now in
    let order = c.loop.order.items in
    let full : length order ≡ count h = search rules in
    record {
      is_order = Picks-order (holds h kept) (count h) order (holds_below h kept) c.loop.invariant.3 full;
      first = λ other o. Picks-first (holds h kept) (count h) [] order other c.loop.invariant.3 o;
    }
