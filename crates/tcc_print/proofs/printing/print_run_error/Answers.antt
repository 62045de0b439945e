use Rattle.std.proofs.Common.{◌≡◌, subst}
use Rattle.std.specs.Prelude.{MatchResult}
use Rattle.tcc_print.specs.Printed.{printed_error}
use Rattle.tcc_print.specs.Statuses.{code_of, run_error_status}
use Rattle.tcc_print.proofs.Sent.{printed}
use Rattle.tcc_print.proofs.printing.print_run_error.Goals as goal

pub returns : goal.returns
returns g c =
    printed _ _ (printed_error c.args.json c.args.error.now) (run_error_status c.args.error.now) c.args.json c.send_made.result c.code_after.result
    (c.send_made.ensures.whole _ c.run_error_made-made.ensures) (c.send_made.ensures.ended _ c.run_error_made-made.ensures)
    (subst (λ status. MatchResult c.send_made.result (λ _. c.code_after.result ≡ code_of status)
    (λ code. c.code_after.result ≡ code)) c.run_error_status.ensures c.code_after.ensures)
