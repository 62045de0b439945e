use Rattle.std.proofs.Common.{◌≡◌, false, subst, sym}
use Rattle.std.specs.Prelude.{MatchResult}
use Rattle.tcc_print.specs.Printed.{check_text}
use Rattle.tcc_print.specs.Texts.{verdict_text}
use Rattle.tcc_print.specs.Printed.{PrintsOrMemory}
use Rattle.tcc_print.specs.Statuses.{check_status, code_of, verdict_status}
use Rattle.tcc_print.proofs.Sent.{printed}
use Rattle.tcc_print.proofs.printing.print_check.Goals as goal

pub returns-in-Ok : goal.returns-in-Ok
returns-in-Ok g c =
    let before = g.W.Write.contents c.args.out.now in
    let after = g.W.Write.contents c.send_made.new.out in
    subst (λ o. PrintsOrMemory false before after (check_text o) (check_status o) c.code_after.result) (sym c.in-Ok.is)
    (printed before after (verdict_text c.in-Ok.judged.claim c.in-Ok.judged.verdict)
    (verdict_status c.in-Ok.judged.verdict) false c.send_made.result c.code_after.result
    (c.send_made.ensures.whole _ c.verdict_text.ensures) (c.send_made.ensures.ended _ c.verdict_text.ensures)
    (subst (λ status. MatchResult c.send_made.result (λ _. c.code_after.result ≡ code_of status)
    (λ code. c.code_after.result ≡ code)) c.verdict_status-status.ensures c.code_after.ensures))
