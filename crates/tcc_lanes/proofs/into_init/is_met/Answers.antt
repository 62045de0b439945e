use Rattle.std.proofs.Common.{below_more, sym, ◌∙◌, arith}
use Rattle.std.proofs.lemmas.Bool.{false≢true}
use Rattle.tcc_lanes.proofs.into_init.is_met.Goals as goal

pub loop-reader-preserved : goal.loop-reader-preserved
loop-reader-preserved c =
    below_more _ _ c.loop-reader.invariant (λ is. false≢true (sym c.if-reads_initial.false ∙ c.reads_initial.ensures.1 is))

pub returns : goal.returns
returns c = (
  (λ e. absurd (false≢true e)),
  (λ is. absurd (c.loop-reader.invariant is.0 (omega (arith, is.1, c.loop-reader-test.false, c.count-reader-end.ensures.value)) is.2)),
)
