-- The fault is printed as it is, or as refused memory.
use Rattle.std.proofs.Common.{subst}
use Rattle.tcc_print.specs.Printed.{PrintsOrMemory, printed_error}
use Rattle.tcc_print.specs.Statuses.{run_error_status}
use Rattle.tcc_verdict.proofs.stopping.stop.Goals as goal

pub returns-clause-printed : goal.returns-clause-printed
returns-clause-printed g c =
    subst (λ why. PrintsOrMemory c.args.json (g.W.Write.contents c.args.out.now) (g.W.Write.contents c.print_run_error.new.out)
    (printed_error c.args.json why) (run_error_status why) c.print_run_error.result) c.from.ensures c.print_run_error.ensures

pub returns-clause-noted : goal.returns-clause-noted
returns-clause-noted g c = c.note_stop.ensures.noted
