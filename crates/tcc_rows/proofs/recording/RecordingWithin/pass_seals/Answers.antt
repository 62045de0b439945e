use Rattle.std.proofs.Common.{Ok, Err, ap, subst, inr, arith}
use Rattle.tcc_rows.specs.Answers.{answers_within, records_within}
use Rattle.tcc_rows.specs.Recordings.{IsRecorded, TakesCheckpoint}
use Rattle.tcc_rows.proofs.RecordingSteps.{ends, fails, if-err-of, matched-err, none-taken, passes_seal, row-within}
use Rattle.tcc_rows.proofs.recording.RecordingWithin.pass_seals.Goals as goal

pub seals-init : goal.seals-init
seals-init g c = record {
  way = λ text recording. none-taken g.B.Bounds.limits g.R.Read.remaining c.args.self.now (answers_within g.B.Bounds.limits text) recording;
  within = λ all within. within;
  going = λ none. none;
}

pub seals-preserved : goal.seals-preserved
seals-preserved g c = record {
  way = λ text recording.
      let way = c.seals.invariant.way text recording in
      passes_seal g.B.Bounds.limits g.R.Read.remaining text c.seals.self c.advance.new.self way
      (subst (λ at. TakesCheckpoint g.B.Bounds.limits g.R.Read.remaining way.0 way.1 (Ok at) c.advance.new.self) c.in-Seal.is (c.in_ok-advance.ensures.checkpoint way.0 way.1 way.3));
  within = λ all within. c.in_ok-advance.ensures.within all (c.seals.invariant.within all within);
  going = λ none. c.in_ok-advance.ensures.goes_on;
}

pub returns-in-End-clause-recorded : goal.returns-in-End-clause-recorded
returns-in-End-clause-recorded g c text recording within fresh =
    let way = c.seals.invariant.way text recording in
    ends g.B.Bounds.limits g.R.Read.remaining text c.seals.self c.advance.new.self way
    (subst (λ at. TakesCheckpoint g.B.Bounds.limits g.R.Read.remaining way.0 way.1 (Ok at) c.advance.new.self) c.in-End.is (c.in_ok-advance.ensures.checkpoint way.0 way.1 way.3))

pub returns-in_err-advance-clause-recorded : goal.returns-in_err-advance-clause-recorded
returns-in_err-advance-clause-recorded g c text recording within fresh =
    let way = c.seals.invariant.way text recording in
    let fault = c.in_err-advance.field-0.0 in
    let row =
    row-within g.B.Bounds.limits g.R.Read.remaining c.advance.new.self.rows (records_within g.B.Bounds.limits text)
    (c.in_err-advance.ensures.within (records_within g.B.Bounds.limits text) (c.seals.invariant.within (records_within g.B.Bounds.limits text) within)) in
    matched-err g.B.Bounds.limits _ (λ why. IsRecorded g.B.Bounds.limits text (Err why)) c.from_residual.result fault c.from_residual.ensures.1
    (fails g.B.Bounds.limits g.R.Read.remaining text c.seals.self c.advance.new.self way fault (c.in_err-advance.ensures.checkpoint way.0 way.1 way.3)
    (omega (arith, row, c.in_err-advance.ensures.row (c.seals.invariant.going fresh)))
    (λ read. (c.in_err-advance.ensures.failed (c.seals.invariant.going fresh) read (records_within g.B.Bounds.limits text) way.0 way.1 way.2
    (c.seals.invariant.within (records_within g.B.Bounds.limits text) within) way.3).0))

pub returns-in_err-advance-clause-faulty : goal.returns-in_err-advance-clause-faulty
returns-in_err-advance-clause-faulty g c =
    if-err-of g.B.Bounds.limits _ c.from_residual.result c.in_err-advance.field-0.0 c.from_residual.ensures.1
    (λ fresh is text recording within.
    let way = c.seals.invariant.way text recording in
    c.in_err-advance.ensures.faulty (c.seals.invariant.going fresh) is (records_within g.B.Bounds.limits text) way.0 way.1
    (c.seals.invariant.within (records_within g.B.Bounds.limits text) within) way.3)

pub returns-clause-recorded : goal.returns-clause-recorded
returns-clause-recorded g c text recording within fresh =
    let row = row-within g.B.Bounds.limits g.R.Read.remaining c.seals.self.rows (records_within g.B.Bounds.limits text) (c.seals.invariant.within (records_within g.B.Bounds.limits text) within) in
    inr (inr (ap (λ fault. fault.kind) c.give_up.ensures.fault, omega (arith, row, ap (λ fault. fault.row) c.give_up.ensures.fault)))
