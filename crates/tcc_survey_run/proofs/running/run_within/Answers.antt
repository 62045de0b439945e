-- Of a reader whose bytes are known.
use Rattle.tcc_verdict.proofs.Checked.{for_any, from_two}
use Rattle.tcc_survey_run.proofs.RunNotes as noting
use Rattle.tcc_survey_run.proofs.Runs.{out_of_memory}
use Rattle.tcc_survey_run.proofs.running.run_within.Goals as goal

pub returns-in-Ok-clause-run : goal.returns-in-Ok-clause-run
returns-in-Ok-clause-run g c = from_two (g.R.Read.remaining c.args.reader) c.in-Ok.ensures.recording c.in-Ok.ensures.within
    (λ text recording within. c.run_recording.ensures.run text recording within c.in-Ok.ensures.fresh)

pub returns-in-Ok-clause-noted : goal.returns-in-Ok-clause-noted
returns-in-Ok-clause-noted g c = from_two (g.R.Read.remaining c.args.reader) c.in-Ok.ensures.recording c.in-Ok.ensures.within
    (λ text recording within. c.run_recording.ensures.noted text recording within c.in-Ok.ensures.fresh)

pub returns-in-Err-clause-run : goal.returns-in-Err-clause-run
returns-in-Err-clause-run g c = for_any (g.R.Read.remaining c.args.reader)
    (λ text. out_of_memory c.args.options.now text _ _ c.print_memory.result c.print_memory.ensures)

pub returns-in-Err-clause-noted : goal.returns-in-Err-clause-noted
returns-in-Err-clause-noted g c = for_any (g.R.Read.remaining c.args.reader)
    (λ text. noting.nothing_read c.args.options.now text _ _ _ c.print_memory.result c.print_memory.ensures)
