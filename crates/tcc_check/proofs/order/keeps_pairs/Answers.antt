use Rattle.std.proofs.Common.{below_more, arith, refl}
use Rattle.std.proofs.lemmas.Bool.{false≢true, iff_false}
use Rattle.tcc_graph.specs.Relations.{IsCausalPair}
use Rattle.tcc_check.specs.private.Positions.{IsKept}
use Rattle.tcc_graph.proofs.Pairs.{pair_below}
use Rattle.tcc_check.proofs.order.keeps_pairs.Goals as goal

pub returns-then-not-keeps_pairs_to : goal.returns-then-not-keeps_pairs_to
returns-then-not-keeps_pairs_to c =
    (λ e. absurd (false≢true e), λ all. absurd (iff_false c.keeps_pairs_to.ensures c.if-not-keeps_pairs_to.true (λ b p. all b c.loop-c.c p)))

pub loop-c-preserved : goal.loop-c-preserved
loop-c-preserved c = λ b.
    below_more (λ end. IsCausalPair c.args.graph.now b end → IsKept c.args.graph.now c.args.claim.now.level c.args.positions.now c.args.claim.now.clocks b end) c.loop-c.c
    (c.loop-c.invariant b)
    (c.keeps_pairs_to.ensures.0 c.if-not-keeps_pairs_to.false b)

pub returns : goal.returns
returns c = (λ e b end p. c.loop-c.invariant b end (omega (arith, c.count-c-end.ensures.value, (pair_below c.args.graph.now b end p).1)) p, λ all. refl)
