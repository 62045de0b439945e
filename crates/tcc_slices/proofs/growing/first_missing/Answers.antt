use Rattle.std.proofs.Common.{arith}
use Rattle.std.proofs.lemmas.List.Elements.{All-from_get_or}
use Rattle.tcc_graph.specs.Levels.{Judged, judged}
use Rattle.tcc_graph.specs.Links.{IsLink}
use Rattle.tcc_graph.specs.declared.link.Link.TheVariants as link
use Rattle.tcc_slices.proofs.OneByOne.{one_more}
use Rattle.tcc_slices.proofs.growing.first_missing.Goals as goal

pub loop-index-preserved : goal.loop-index-preserved
loop-index-preserved c =
    one_more (judged c.args.graph.now c.args.level) c.args.links.now c.loop-index.index c.index-links-index.result
    c.loop-index-test.true c.index-links-index.is (rw c.deref.ensures.value at (c.is_link.ensures.0 c.if-not-is_link.false)) c.loop-index.invariant

pub returns : goal.returns
returns c =
    let j : Judged = judged c.args.graph.now c.args.level in
    All-from_get_or (IsLink j) c.args.links.now (link.Session 0 0)
    (λ i within. c.loop-index.invariant i (link.Session 0 0) (omega (arith, within, c.loop-index-test.false)))
