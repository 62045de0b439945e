-- All links were seen.
use Rattle.std.proofs.Common.{◌≡◌, ℕ, length, subst, arith}
use Rattle.tcc_rules.specs.Links.{AreSeenTo}
use Rattle.tcc_rules.proofs.links.first_wrong_link.Goals as goal
use Rattle.tcc_graph.specs.Levels.{Judged, judged}

pub loop-before-init : goal.loop-before-init
loop-before-init c = c.no_links-seen.ensures (judged c.args.graph.now c.args.level) c.args.links.now

pub returns : goal.returns
returns c =
    let j : Judged = judged c.args.graph.now c.args.level in
    let links = c.args.links.now in
    let whole : c.loop-before.before ≡ length links = omega (arith, c.loop-before-test.false, c.loop-before.auto.before-end) in
    c.seen_wrong.ensures j c.args.cost links
    (subst (λ (i : ℕ). AreSeenTo j c.args.cost links i c.loop-before.seen) whole c.loop-before.invariant)
