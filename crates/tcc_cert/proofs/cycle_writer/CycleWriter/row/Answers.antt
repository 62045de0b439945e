-- The row's line is written after what was given, and after the mark if it is the first of `far`.
use Rattle.std.proofs.Common.{Err, ◌∙◌}
use Rattle.std.proofs.lemmas.Result.{on_ok_weaker}
use Rattle.tcc_cert.proofs.SentFacts.{IsSent-then, Stops-early}
use Rattle.tcc_cert.proofs.GivenFacts.{noted, row_part, row_whole, works}
use Rattle.tcc_cert.proofs.cycle_writer.CycleWriter.row.Goals as goal

pub returns-in-Ok-clause-whole : goal.returns-in-Ok-clause-whole
returns-in-Ok-clause-whole g c =
    let sent = noted c.note.result c.number_line-sent.result _ _ _ _ _ c.note.ensures.ok c.note.ensures.err c.number_line-sent.ensures in
    λ before count k h may. row_whole g.W.Write.contents c.note.result c.args.table c.args.self.now c.note.new.self before count k c.args.row.now h may
    (rw (c.note.ensures.out, c.note.ensures.outgoing) (IsSent-then c.note.result _ _ _ _ _ _ _ _ (c.in-Ok.ensures.sent (works g.W.Write.contents h)) sent))
    (on_ok_weaker c.note.result (λ p. p ∙ c.in-Ok.ensures.stage) c.note.ensures.goes_on)

pub returns-in-Ok-clause-part : goal.returns-in-Ok-clause-part
returns-in-Ok-clause-part g c =
    let sent = noted c.note.result c.number_line-sent.result _ _ _ _ _ c.note.ensures.ok c.note.ensures.err c.number_line-sent.ensures in
    λ before count k h may. row_part g.W.Write.contents c.note.result c.args.table c.args.self.now c.note.new.self before count k c.args.row.now h may
    (rw (c.note.ensures.out, c.note.ensures.outgoing) (IsSent-then c.note.result _ _ _ _ _ _ _ _ (c.in-Ok.ensures.sent (works g.W.Write.contents h)) sent))

pub returns-in-Err-clause-part : goal.returns-in-Err-clause-part
returns-in-Err-clause-part g c =
    λ before count k h may. row_part g.W.Write.contents (Err c.in-Err.fault) c.args.table c.args.self.now c.mark.new.self before count k c.args.row.now h may
    (Stops-early _ (c.in-Err.ensures.sent (works g.W.Write.contents h)))
