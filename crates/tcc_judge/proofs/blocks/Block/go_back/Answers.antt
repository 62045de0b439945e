-- The next writers are those after the place, and all else is unchanged.
use Rattle.std.proofs.Common.{◌≡◌, ◌<◌, ◌+◌, ◌∙◌, ℕ, get_or, refl, sym}
use Rattle.tcc_reads.specs.History.{count, owner}
use Rattle.tcc_clocks.specs.Clocks.{IsOutside}
use Rattle.tcc_judge.specs.private.Blocks.{IsInLane}
use Rattle.tcc_judge.specs.private.NextWriters.{AreNextWriters}
use Rattle.tcc_judge.proofs.BlockLemmas.{still_ready}
use Rattle.tcc_judge.proofs.NextLemmas.{next_outside, next_here}
use Rattle.tcc_judge.proofs.blocks.Block.go_back.Goals.{After-lane_of}
use Rattle.tcc_judge.proofs.blocks.Block.go_back.Goals as goal

below : (c : After-lane_of) → get_or c.args.order.now c.args.place 0 < count c.args.graph.now
below c = c.requires.at.ready.ordered.numbering.below c.args.place 0 c.requires.inside

pub returns-in_default-clause-at : goal.returns-in_default-clause-at
returns-in_default-clause-at c =
    let h = c.args.graph.now in
    let at = c.requires.at in
    let a : ℕ = get_or c.args.order.now c.args.place 0 in
    let outside : IsOutside c.args.self.now.owners.items c.args.self.now.from a = rw c.in_default.is at c.lane_of.ensures in
    record {
      ready = at.ready;
      clocks = at.clocks;
      next = next_outside h c.args.order.now c.args.self.now.from c.args.place c.requires.inside c.args.self.now.next
          (λ session narrow some same.
          outside some session narrow (at.ready.owners.each a some (below (goal.at.returns-in_default-clause-at c).After-lane_of) ∙ same)) at.next;
    }

pub returns-clause-at : goal.returns-clause-at
returns-clause-at c =
    let h = c.args.graph.now in
    let at = c.requires.at in
    let a : ℕ = get_or c.args.order.now c.args.place 0 in
    let lane : IsInLane c.args.self.now.owners.items c.args.self.now.from a c.in-Some.lane = rw c.in-Some.is at c.lane_of.ensures in
    let inside = below (goal.at.returns-clause-at c).After-lane_of in
    let owned : owner h a ≡ c.args.self.now.from + c.in-Some.lane = sym (at.ready.owners.each a lane.1 inside) ∙ lane.2 in
    let next : AreNextWriters h c.args.order.now c.args.self.now.from c.args.place c.lower_all.new.next
    = next_here h c.args.order.now c.args.self.now.from c.args.place c.requires.inside c.writes_at.result.now c.writes_at.ensures.value c.writes_at.ensures.within
    c.in-Some.lane lane.0 lane.1 inside owned c.args.self.now.next c.lower_all.new.next c.in_ok-lower_all.ensures at.next in
    record {
      ready = still_ready h c.args.order.now c.args.self.now _ at.ready refl refl at.ready.clocks_long next.long;
      clocks = at.clocks;
      next = next;
    }
