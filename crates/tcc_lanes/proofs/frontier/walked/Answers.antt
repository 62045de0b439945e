use Rattle.std.proofs.Common.{◌≡◌, ◌<◌, ◌↔◌, ◌∙◌, ℕ, get_or, sym, arith}
use Rattle.tcc_reads.specs.History.{count}
use Rattle.tcc_lanes.specs.declared.words.TheConstants.{LANES}
use Rattle.tcc_lanes.specs.private.Marks.{IsAt}
use Rattle.tcc_lanes.specs.private.Walking.{IsWalkedOn}
use Rattle.tcc_txn.proofs.Lists.{whole}
use Rattle.tcc_lanes.proofs.Walked.{still_after, walked_more}
use Rattle.tcc_lanes.proofs.frontier.walked.Goals as goal

pub loop-preserved : goal.loop-preserved
loop-preserved c =
    let h = c.args.graph.now in
    let begun = c.args.begun.now in
    let after = c.walk_on.new.reached in
    let room = c.walk_on.new.underway in
    let back =
    whole after c.loop.reached.items c.loop.reached.len (c.walk_on.ensures.same ∙ sym c.loop.invariant.long) c.loop.reached.ok.0 in
    let other =
    whole room c.loop.underway.items c.loop.underway.len (c.walk_on.ensures.room ∙ sym c.loop.invariant.room) c.loop.underway.ok.0 in
    let each : (v i : ℕ) → v < count h → i < LANES → IsAt after v i ↔ IsWalkedOn h c.args.level begun c.loop.reached.items v i
    = rw (c.deref_mut.ensures.value) at c.walk_on.ensures.each in
    rw (back, other) (record {
      long = c.walk_on.ensures.same;
      room = c.walk_on.ensures.room;
      walked = walked_more h begun c.loop.reached.items after c.loop.counter c.args.level c.loop.invariant.walked each;
    })

pub returns-then-not-walk_on-clause-each : goal.returns-then-not-walk_on-clause-each
returns-then-not-walk_on-clause-each c =
    let h = c.args.graph.now in
    let begun = c.args.begun.now in
    let after = c.walk_on.new.reached in
    let reached = c.loop.reached in
    let back = whole after reached.items reached.len (c.walk_on.ensures.same ∙ sym c.loop.invariant.long) reached.ok.0 in
    let each : (v i : ℕ) → v < count h → i < LANES → IsAt after v i ↔ IsWalkedOn h c.args.level begun reached.items v i
    = rw (c.deref_mut.ensures.value) at c.walk_on.ensures.each in
    let still : (v : ℕ) → v < count h → get_or after v 0 ≡ get_or reached.items v 0
    = rw c.deref_mut.ensures.value at c.walk_on.ensures.still c.if-not-walk_on.true in
    rw back (still_after h c.args.level begun reached.items after c.loop.counter c.loop.invariant.walked still each c.args.most (omega (arith, c.loop-test.true)))
