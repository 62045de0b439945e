use Rattle.std.proofs.Common.{rules, ◌≡◌, ◌<◌, ◌∷◌, ◌++◌, ◌∙◌, [], length, set, arith}
use Rattle.std.proofs.lemmas.List.{length-set}
use Rattle.std.proofs.lemmas.List.Elements.{Contains-append_left, Contains-push}
use Rattle.tcc_graph.specs.Tables.{row_of}
use Rattle.tcc_order.specs.private.Held.{holds}
use Rattle.tcc_order.specs.private.Queued.{AreQueued, IsAny, IsNot}
use Rattle.tcc_order.proofs.Fronts.{holds_parts}
use Rattle.tcc_order.proofs.QueuedLemmas.{queued_popped, queued_parked, queued_ready, last_woken, other_woken, sure_more}
use Rattle.tcc_order.proofs.kahn.Precedence.look_at_woken.Goals.{In-Some}
use Rattle.tcc_order.proofs.kahn.Precedence.look_at_woken.Goals as goal

-- the queue, and the number that is examined now
queued : (c : In-Some) → AreQueued (holds c.args.self.now.graph.now c.args.self.now.kept.now) c.args.self.now.parents.now c.args.placed.now IsAny
    ((c.pop.new.self.items ++ c.in-Some.number ∷ []) ++ c.loop-number.queue.ready) c.loop-number.queue.waiting
queued c = rw c.in-Some.ensures.items at c.loop-number.invariant.1

low : (c : In-Some) → c.in-Some.number < length c.args.self.now.parents.now
low c =
    (queued c).inside c.in-Some.number
    (Contains-append_left (c.pop.new.self.items ++ c.in-Some.number ∷ []) c.loop-number.queue.ready c.in-Some.number
    (Contains-push c.pop.new.self.items c.in-Some.number))

pub index-requires : goal.index-requires
index-requires c =
    let long : c.loop-number.queue.seen.len ≡ length c.loop-number.queue.seen.items = search rules in
    omega (arith, low (goal.at.index-requires c).In-Some, long, c.loop-number.invariant.0, c.requires.known.parents.long)

pub missing-requires-clause-below : goal.missing-requires-clause-below
missing-requires-clause-below c = omega (arith, low (goal.at.missing-requires-clause-below c).In-Some, c.requires.known.parents.long)

pub index_mut-requires : goal.index_mut-requires
index_mut-requires c =
    let long : c.loop-number.queue.seen.len ≡ length c.loop-number.queue.seen.items = search rules in
    omega (arith, low (goal.at.index_mut-requires c).In-Some, long, c.loop-number.invariant.0, c.requires.known.parents.long)

pub push-requires : goal.push-requires
push-requires c =
    let below = (holds_parts c.args.self.now.graph.now c.args.self.now.kept.now c.in-Some-missing.other c.in-Some.number c.in-Some-missing.ensures.0).0 in
    omega (arith, below, c.loop-number.invariant.1.long, c.requires.known.parents.long)

pub loop-number-preserved-in-Continue-1 : goal.loop-number-preserved-in-Continue-1
loop-number-preserved-in-Continue-1 c =
    let h = c.args.self.now.graph.now in
    let kept = c.args.self.now.kept.now in
    let ps = c.args.self.now.parents.now in
    let placed = c.args.placed.now in
    let some = (goal.at.loop-number-preserved-in-Continue-1 c).In-Some in
    let rest = c.pop.new.self.items in
    let ready = c.loop-number.queue.ready in
    let waiting = c.loop-number.queue.waiting in
    let number = c.in-Some.number in
    let other = c.in-Some-missing.other in
    let ends = holds_parts h kept other number c.in-Some-missing.ensures.0 in
    let after : AreQueued (holds h kept) ps placed (IsNot number) (rest ++ ready) waiting
    = queued_popped (holds h kept) ps placed ((rest ++ number ∷ []) ++ ready) (rest ++ ready) waiting number (queued some)
    (λ y there left. last_woken rest ready number y there) (λ y there. other_woken rest ready number y there) in
    let put : c.push.new.self ≡ set waiting other (number ∷ row_of waiting other) = c.in_ok-push-in-Some-missing.ensures.value in
    rw put (
      length-set c.loop-number.queue.seen.items number c.unwrap_or.result ∙ c.loop-number.invariant.0,
      queued_parked (holds h kept) ps placed (rest ++ ready) waiting number other after
          (omega (arith, ends.1, c.requires.known.parents.long)) (omega (arith, ends.0, c.requires.known.parents.long)) c.in-Some-missing.ensures.1
          c.in-Some-missing.ensures.0,
      c.loop-number.invariant.2,
    )

pub loop-number-preserved : goal.loop-number-preserved
loop-number-preserved c =
    let held = holds c.args.self.now.graph.now c.args.self.now.kept.now in
    let some = (goal.at.loop-number-preserved c).In-Some in
    let ready = c.loop-number.queue.ready in
    let new = c.push-in-None.new.self in
    let number = c.in-Some.number in
    let put = c.in_ok-push-in-None.ensures in (
      c.loop-number.invariant.0,
      queued_ready held c.args.self.now.parents.now c.args.placed.now c.pop.new.self.items ready new c.loop-number.queue.waiting number (queued some) put,
      sure_more held c.args.placed.now ready new number c.loop-number.invariant.2 c.in-None.ensures put,
    )
