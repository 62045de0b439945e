use Rattle.std.proofs.Common.{ap, arith, sym, ◌∙◌}
use Rattle.tcc_rows.specs.private.ControlRecords.{line_by}
use Rattle.tcc_rows.proofs.AheadFacts.{closed-after, end-taken, line-taken, row-at, unfinished-after}
use Rattle.tcc_txn.proofs.Growing.{if-err-then}
use Rattle.tcc_rows.proofs.RecordSteps.{all-read, line-stands}
use Rattle.tcc_rows.proofs.rows.Rows.pass_line.Goals as goal

pub returns-in-Ok-Some-clause-line : goal.returns-in-Ok-Some-clause-line
returns-in-Ok-Some-clause-line g c limits ahead reading =
    let here = rw c.in-Ok-Some.field-0-is at (c.in-Ok-Some.ensures.line limits ahead reading) in
    let row = row-at limits g.R.Read.remaining c.next_line.new.self ahead (line_by c.in-Ok-Some.turn) here in
    let fields = c.take_line.ensures.fields limits here.past here.fields here.progress row here.whole here.lawful in
    line-taken limits g.R.Read.remaining c.next_line.new.self c.take_line.new.self ahead (line_by c.in-Ok-Some.turn) here c.take_line.ensures.records c.take_line.result fields

pub returns-in-Ok-Some-clause-within : goal.returns-in-Ok-Some-clause-within
returns-in-Ok-Some-clause-within g c all stands =
    let now = rw c.in-Ok-Some.field-0-is at (c.in-Ok-Some.ensures.within all stands) in
    let some = rw c.in-Ok-Some.field-0-is at c.in-Ok-Some.ensures.more in
    line-stands g.R.Read.remaining c.next_line.new.self c.take_line.new.self all c.take_line.result now (omega (arith, some)) c.take_line.ensures.records
    (c.take_line.ensures.going (c.in-Ok-Some.ensures.stage ∙ c.requires))

pub returns-in-Ok-None-clause-line : goal.returns-in-Ok-None-clause-line
returns-in-Ok-None-clause-line g c limits ahead reading =
    let (past, is, row, answers) = rw c.in-Ok-None.field-0-is at (c.in-Ok-None.ensures.line limits ahead reading) in
    let end = c.finish.ensures in
    end-taken limits g.R.Read.remaining c.finish.new.self ahead past answers c.finish.result
    (unfinished-after limits c.finish.result _ _ past is row end.unfinished)
    (closed-after limits c.finish.result _ past is end.closed)
    end.end

pub returns-in-Ok-None-clause-within : goal.returns-in-Ok-None-clause-within
returns-in-Ok-None-clause-within g c all stands =
    let now = rw c.in-Ok-None.field-0-is at (c.in-Ok-None.ensures.within all stands) in
    all-read g.R.Read.remaining c.next_line.new.self c.finish.new.self all c.finish.result now c.finish.ensures.records c.finish.ensures.stage
    c.finish.ensures.other

pub returns-in-Err-clause-line : goal.returns-in-Err-clause-line
returns-in-Err-clause-line g c limits ahead reading = rw c.fault.ensures (c.in-Err.ensures.line limits ahead reading)

pub returns-in-Err-clause-within : goal.returns-in-Err-clause-within
returns-in-Err-clause-within g c all stands = rw c.fault.ensures (c.in-Err.ensures.within all stands)

pub returns-in-Ok-Some-clause-failed : goal.returns-in-Ok-Some-clause-failed
returns-in-Ok-Some-clause-failed g c = if-err-then c.take_line.result (λ fault other read. absurd (other read)) c.take_line.ensures.read

pub returns-in-Ok-None-clause-failed : goal.returns-in-Ok-None-clause-failed
returns-in-Ok-None-clause-failed g c = if-err-then c.finish.result (λ fault other read. absurd (other read)) c.finish.ensures.read

pub returns-in-Err-clause-failed : goal.returns-in-Err-clause-failed
returns-in-Err-clause-failed g c read limits all ahead stands reading =
    let kind = sym (ap (λ fault. fault.kind) c.fault.ensures) ∙ read in
    rw c.fault.ensures (c.in-Err.ensures.failed kind limits all ahead stands reading)
