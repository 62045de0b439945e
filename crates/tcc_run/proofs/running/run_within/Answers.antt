use Rattle.tcc_verdict.proofs.Checked.{for_any}
use Rattle.tcc_print.proofs.Courses.{nothing_read}
use Rattle.tcc_run.specs.private.Stages.{course}
use Rattle.tcc_run.proofs.Runs.{early}
use Rattle.tcc_run.proofs.running.run_within.Goals as goal

pub returns-in-Err : goal.returns-in-Err
returns-in-Err g c =
    for_any (g.R.Read.remaining c.args.reader)
    (λ text. early g.B.Bounds.limits c.args.run.now.options.now text _ _ _ c.print_memory.result
    (nothing_read (course g.B.Bounds.limits c.args.run.now.options.now) text _ _ c.print_memory.result c.print_memory.ensures))
