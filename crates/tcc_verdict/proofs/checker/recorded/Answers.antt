-- The note shows the record at the row of the fault, which was read last.
use Rattle.tcc_rows.specs.Answers.{records_within}
use Rattle.tcc_rows.specs.Reached.{last_record, record_at}
use Rattle.tcc_verdict.proofs.Checked.{from_two}
use Rattle.tcc_verdict.proofs.NotesLemmas.{fault_shown}
use Rattle.tcc_verdict.proofs.checker.recorded.Goals as goal

pub returns-in-Err-clause-shown : goal.returns-in-Err-clause-shown
returns-in-Err-clause-shown g c = from_two (g.R.Read.remaining c.args.reader) c.in-Ok.ensures.recording c.in-Ok.ensures.within
    (λ text recording within. fault_shown _ _ g.B.Bounds.limits c.in-Err.fault (last_record c.pass_seals.new.self.rows)
    (record_at c.in-Err.fault.row (records_within g.B.Bounds.limits text))
    (λ is. c.in-Err.ensures.faulty c.in-Ok.ensures.fresh is text recording within) c.note_stop.ensures.noted)
