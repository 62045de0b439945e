use Rattle.std.proofs.Common.{refl, sym, ap, arith, inl, ◌∙◌}
use Rattle.tcc_rows.specs.Answers.{answers_after_within}
use Rattle.tcc_rows.specs.RecordsLeft.{record_of}
use Rattle.tcc_rows.specs.private.ControlRecords.{line_by}
use Rattle.tcc_rows.proofs.AheadFacts.{failed-reading, judged-refused, judged-unlawful, line-met, operation-passed, reading-failed, record-refused, row-ended}
use Rattle.tcc_rows.proofs.RecordSteps.{stops-at, stops-unread}
use Rattle.tcc_rows.proofs.rows.Rows.next_line.Goals as goal

pub returns-in-Ok-false-clause-line : goal.returns-in-Ok-false-clause-line
returns-in-Ok-false-clause-line g c limits ahead reading =
    let now = c.records.invariant.reading limits ahead reading in
    let none = rw c.in-Ok-false.field-0-test at (c.in-Ok-false.ensures.taken now.left now.records) in
    let counts = rw c.in-Ok-false.field-0-test at c.in-Ok-false.ensures.counts in
    (now.past, now.progress, row-ended limits g.R.Read.remaining c.records.self c.read.new.self ahead now counts, now.answers ∙ ap (answers_after_within limits now.past) none)

pub returns-in-Ok-false-clause-within : goal.returns-in-Ok-false-clause-within
returns-in-Ok-false-clause-within g c all stands =
    rw c.in-Ok-false.field-0-test at (c.in-Ok-false.ensures.stands all (c.records.invariant.stands all stands))

pub returns-in-Err-clause-line : goal.returns-in-Err-clause-line
returns-in-Err-clause-line g c limits ahead reading =
    let now = c.records.invariant.reading limits ahead reading in
    reading-failed limits g.R.Read.remaining c.records.self c.read.new.self ahead now c.in-Err.kind c.in-Err.ensures.counts c.in-Err.ensures.failure

pub returns-in-Err-clause-within : goal.returns-in-Err-clause-within
returns-in-Err-clause-within g c all stands =
    stops-unread c.read.new.self all c.in-Err.kind c.in-Err.ensures.failure (c.in-Err.ensures.stands all (c.records.invariant.stands all stands))

pub returns-in-Err-clause-failed : goal.returns-in-Err-clause-failed
returns-in-Err-clause-failed g c read limits all ahead stands reading =
    failed-reading limits g.R.Read.remaining c.records.self c.read.new.self all ahead (c.records.invariant.reading limits ahead reading)
    (c.records.invariant.stands all stands)
    c.in-Err.kind c.in-Err.ensures.counts

pub returns-in-Ok-clause-line : goal.returns-in-Ok-clause-line
returns-in-Ok-clause-line g c limits ahead reading =
    let now = c.records.invariant.reading limits ahead reading in
    let taken = rw c.in-Ok-true.field-0-test at (c.in-Ok-true.ensures.taken now.left now.records) in
    let counts = rw c.in-Ok-true.field-0-test at c.in-Ok-true.ensures.counts in
    let whole = rw c.record-record.ensures.value at c.record-record.ensures.whole in
    let lawful = rw c.record-record.ensures.value at (sym c.in-Ok.ensures.line) in
    line-met limits g.R.Read.remaining c.records.self _ c.read.new.self ahead now taken counts refl refl whole (line_by c.in-Ok.turn) lawful

pub returns-in-Err-read_line-clause-line : goal.returns-in-Err-read_line-clause-line
returns-in-Err-read_line-clause-line g c limits ahead reading =
    let now = c.records.invariant.reading limits ahead reading in
    let taken = rw c.in-Ok-true.field-0-test at (c.in-Ok-true.ensures.taken now.left now.records) in
    let counts = rw c.in-Ok-true.field-0-test at c.in-Ok-true.ensures.counts in
    let wrong = judged-unlawful limits now.past (record_of c.read.new.self) c.in-Err-read_line.kind
    (rw c.record-record.ensures.value at c.record-record.ensures.whole) (rw c.record-record.ensures.value at (sym c.in-Err-read_line.ensures.line)) in
    record-refused limits g.R.Read.remaining c.records.self c.read.new.self ahead now taken counts c.in-Err-read_line.kind (inl wrong)

pub returns-in-Err-read_line-clause-within : goal.returns-in-Err-read_line-clause-within
returns-in-Err-read_line-clause-within g c all stands =
    let now = rw c.in-Ok-true.field-0-test at (c.in-Ok-true.ensures.stands all (c.records.invariant.stands all stands)) in
    let counts = rw c.in-Ok-true.field-0-test at c.in-Ok-true.ensures.counts in
    stops-at g.R.Read.remaining c.read.new.self all c.in-Err-read_line.kind now (omega (arith, counts.0))

pub returns-in-Err-pass_operation-clause-line : goal.returns-in-Err-pass_operation-clause-line
returns-in-Err-pass_operation-clause-line g c limits ahead reading =
    let now = c.records.invariant.reading limits ahead reading in
    let taken = rw c.in-Ok-true.field-0-test at (c.in-Ok-true.ensures.taken now.left now.records) in
    let counts = rw c.in-Ok-true.field-0-test at c.in-Ok-true.ensures.counts in
    let whole = rw c.record-record.ensures.value at c.record-record.ensures.whole in
    let refused = rw c.record-record.ensures.value at (c.in-Err-pass_operation.ensures.passed limits now.past now.progress) in
    record-refused limits g.R.Read.remaining c.records.self c.read.new.self ahead now taken counts c.in-Err-pass_operation.kind
    (judged-refused limits now.past (record_of c.read.new.self) c.in-Err-pass_operation.kind c.pass_operation.new.self whole refused)

pub returns-in-Err-pass_operation-clause-within : goal.returns-in-Err-pass_operation-clause-within
returns-in-Err-pass_operation-clause-within g c all stands =
    let now = rw c.in-Ok-true.field-0-test at (c.in-Ok-true.ensures.stands all (c.records.invariant.stands all stands)) in
    let counts = rw c.in-Ok-true.field-0-test at c.in-Ok-true.ensures.counts in
    stops-at g.R.Read.remaining c.read.new.self all c.in-Err-pass_operation.kind now (omega (arith, counts.0))

pub records-preserved : goal.records-preserved
records-preserved g c =
    let counts = rw c.in-Ok-true.field-0-test at c.in-Ok-true.ensures.counts in
    record {
      stage = c.records.invariant.stage;
      reading = λ limits ahead reading.
          let now = c.records.invariant.reading limits ahead reading in
          let taken = rw c.in-Ok-true.field-0-test at (c.in-Ok-true.ensures.taken now.left now.records) in
          let whole = rw c.record-record.ensures.value at c.record-record.ensures.whole in
          let passed = rw c.record-record.ensures.value at (c.in_default.ensures.passed limits now.past now.progress) in
          operation-passed limits g.R.Read.remaining c.records.self _ c.read.new.self ahead now taken counts refl whole c.in_default.field-0 passed;
      stands = λ all stands. rw c.in-Ok-true.field-0-test at (c.in-Ok-true.ensures.stands all (c.records.invariant.stands all stands));
      more = omega (arith, c.records.invariant.more, counts.0);
    }
