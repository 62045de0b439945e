use Rattle.std.proofs.Common.{ℕ, ap, ◌∙◌, arith}
use Rattle.tcc_large.proofs.Reached.{reach_room, spread_next}
use Rattle.tcc_large.proofs.ReasonLemmas.{NoneUpTo, no_walk, none_kept, none_upto}
use Rattle.tcc_large.proofs.reasons.derived_by_walk.Goals as goal
use Rattle.tcc_large.proofs.reasons.derived_by_walk.Goals.{else-loop-position-test, then-loop-position-test+in_ok-spread+in_default}

pub loop-position-preserved : goal.loop-position-preserved
loop-position-preserved c =
    let h = c.args.graph.now in
    let old = c.loop-position.reach in
    let new = c.spread.new.self in
    let p : ℕ = c.loop-position.position in
    let was = c.loop-position.invariant in
    let is = c.in_ok-spread.ensures in
    let there = c.in-Some.ensures in
    record {
      reach = is.reach;
      start = ap (λ (q : ℕ × ℕ). q.0) (is.more.same 0 (omega (arith, was.inside))) ∙ was.start;
      inside = there.0;
      spread = spread_next h old.positions old.queue.items new.positions new.queue.items p was.spread is.more was.inside is.met;
      none = none_upto h c.args.from c.args.to old.positions old.queue.items new.positions new.queue.items p c.in-Some.reader was.none is.more was.inside
          there.1 c.in_default-contradicted.ensures;
    }

pub unreachable-requires : goal.unreachable-requires
unreachable-requires c =
    let h = c.args.graph.now in
    let old = c.loop-position.reach in
    let p : ℕ = c.loop-position.position in
    let was = c.loop-position.invariant in
    elim c.loop-position-test.branch [
      | else-loop-position-test w ↦
          absurd (omega (arith, was.inside, reach_room h old.positions old.covered old.queue.items was.reach, w.loop-position-test.false, c.count-position-end.ensures.value))
      | then-loop-position-test+in_ok-spread+in_default w ↦
          let new = w.spread.new.self in
          let is = w.in_ok-spread.ensures in
          let more : NoneUpTo h c.args.from c.args.to new.queue.items p
          = none_kept h c.args.from c.args.to old.positions old.queue.items new.positions new.queue.items p was.none is.more was.inside in
          no_walk h c.args.from c.args.to new.positions new.covered new.queue.items p is.reach
          (spread_next h old.positions old.queue.items new.positions new.queue.items p was.spread is.more was.inside is.met)
          (ap (λ (q : ℕ × ℕ). q.0) (is.more.same 0 (omega (arith, was.inside))) ∙ was.start) w.in_default.ensures more c.requires
    ]
