use Rattle.std.proofs.Common.{sym, ◌∙◌}
use Rattle.std.proofs.lemmas.Bool.{false≢true}
use Rattle.tcc_clocks.specs.Clocks.{IsOutside}
use Rattle.tcc_judge.specs.private.Blocks.{IsInLane}
use Rattle.tcc_judge.specs.private.Sources.{IsReachingIn}
use Rattle.tcc_judge.proofs.SourceLemmas.{mark_same, one_lane, outside_lane}
use Rattle.tcc_judge.proofs.sources.mark_at.Goals as goal

pub returns-in_default-clause-each : goal.returns-in_default-clause-each
returns-in_default-clause-each c = λ v l.
    let block = c.args.block.now in
    let outside : IsOutside block.owners.items block.from c.args.b = rw c.in_default.is at c.lane_of.ensures in
    mark_same c.args.marks.now c.args.b (IsReachingIn c.args.graph.now block.owners.items block.from c.args.gaps.now c.args.b)
    (λ is. outside_lane block.owners.items block.from c.args.b is.0 outside is.1) v

pub returns-else-is_reaching-clause-each : goal.returns-else-is_reaching-clause-each
returns-else-is_reaching-clause-each c = λ v l.
    let block = c.args.block.now in
    let lane : IsInLane block.owners.items block.from c.args.b c.in-Some.session = rw c.in-Some.is at c.lane_of.ensures in
    mark_same c.args.marks.now c.args.b (IsReachingIn c.args.graph.now block.owners.items block.from c.args.gaps.now c.args.b)
    (λ is. false≢true (sym c.if-is_reaching.false
    ∙ c.is_reaching.ensures.1 (one_lane c.args.graph.now block.owners.items block.from c.args.gaps.now c.args.b c.in-Some.session lane is))) v
