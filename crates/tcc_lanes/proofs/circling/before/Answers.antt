use Rattle.std.proofs.Common.{below_more, sym, ◌∙◌}
use Rattle.std.proofs.lemmas.Bool.{false≢true}
use Rattle.tcc_lanes.proofs.circling.before.Goals as goal

pub loop-from-preserved : goal.loop-from-preserved
loop-from-preserved c =
    below_more _ _ c.loop-from.invariant
    (λ inside adds. false≢true (sym c.if-is_sum.false ∙ c.is_sum.ensures.1 (rw (sym c.price-in-loop-from.ensures) at adds)))
