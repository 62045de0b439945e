use Rattle.std.proofs.Common.{rules, ℕ, ◌≤◌, sym, subst, arith}
use Rattle.std.specs.Prelude.{slice_index}
use Rattle.std.proofs.lemmas.Bool.{false≢true}
use Rattle.tcc_first.specs.private.Ways.{IsSessionTwoStep}
use Rattle.tcc_first.proofs.WayLemmas.{reader_at, place_of_reader}
use Rattle.tcc_first.proofs.returns.has_reader_return.Goals as goal

pub is_session_two_step-requires-clause-from : goal.is_session_two_step-requires-clause-from
is_session_two_step-requires-clause-from c =
    (reader_at c.args.graph.now c.args.from c.readings_at.result.0.now c.readings_at.result.1.now c.readings_at.ensures c.loop-reader.reader-index
    c.loop-reader-test.true).1.1

pub returns-then-is_session_two_step : goal.returns-then-is_session_two_step
returns-then-is_session_two_step c = (
  (λ _. (
    slice_index c.readings_at.result.0.now c.loop-reader.reader-index,
    reader_at c.args.graph.now c.args.from c.readings_at.result.0.now c.readings_at.result.1.now c.readings_at.ensures c.loop-reader.reader-index
        c.loop-reader-test.true,
    c.if-from-reader.true,
    c.is_session_two_step.ensures.0 c.if-is_session_two_step.true,
  )),
  (λ _. search rules),
)

pub returns : goal.returns
returns c = (
  (λ e. absurd (false≢true e)),
  (λ (b, read, up, short).
      let w = place_of_reader c.args.graph.now c.args.from c.readings_at.result.0.now c.readings_at.result.1.now c.readings_at.ensures b read in
      absurd (c.loop-reader.invariant w.0 (omega (arith, w.1, c.loop-reader-test.false))
      (subst (λ (z : ℕ). c.args.from ≤ z) (sym w.2) up) (subst (λ (z : ℕ). IsSessionTwoStep c.args.graph.now z c.args.from) (sym w.2) short))),
)
