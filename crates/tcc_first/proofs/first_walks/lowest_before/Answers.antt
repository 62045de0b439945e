use Rattle.std.proofs.Common.{◌≡◌, true, sym, ◌∙◌, arith}
use Rattle.std.proofs.lemmas.Bool.{false≢true}
use Rattle.tcc_derive.specs.private.LeadingBack.{stands_at}
use Rattle.tcc_first.proofs.LastSteps.{down_none, down_here, down_on, all_down}
use Rattle.tcc_first.proofs.first_walks.lowest_before.Goals as goal

pub loop-at-init : goal.loop-at-init
loop-at-init c = down_none c.args.graph.now (λ u. stands_at c.args.lengths.now c.args.from u c.args.left ≡ true) c.args.end c.requires.end

pub loop-at-preserved-then-stands_at : goal.loop-at-preserved-then-stands_at
loop-at-preserved-then-stands_at c =
    down_here c.args.graph.now (λ u. stands_at c.args.lengths.now c.args.from u c.args.left ≡ true) c.args.end c.loop-at.at c.previous-at.result
    c.previous-at.ensures.before c.previous-at.ensures.pair c.previous-at.ensures.last c.loop-at.lowest c.loop-at.invariant
    (sym c.stands_at.ensures ∙ c.if-stands_at.true)

pub loop-at-preserved : goal.loop-at-preserved
loop-at-preserved c =
    down_on c.args.graph.now (λ u. stands_at c.args.lengths.now c.args.from u c.args.left ≡ true) c.args.end c.loop-at.at c.previous-at.result
    c.previous-at.ensures.before c.previous-at.ensures.pair c.previous-at.ensures.last c.loop-at.lowest c.loop-at.invariant
    (λ is. false≢true (sym c.if-stands_at.false ∙ (c.stands_at.ensures ∙ is)))

pub returns : goal.returns
returns c =
    all_down c.args.graph.now (λ u. stands_at c.args.lengths.now c.args.from u c.args.left ≡ true) c.args.end c.loop-at.at
    (omega (arith, c.loop-at-test.false)) c.loop-at.lowest c.loop-at.invariant
