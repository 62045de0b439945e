-- The note is that of the record, of which no more than the first fields are looked at.
use Rattle.std.proofs.Common.{◌≡◌, true, subst}
use Rattle.std.specs.Io.KnownBytes.{Appends}
use Rattle.tcc_rows.specs.Reached.{is_of_record, last_record}
use Rattle.tcc_print.specs.Notes.{IsNoted}
use Rattle.tcc_verdict.proofs.FieldsLemmas.{noted_of_first}
use Rattle.tcc_verdict.proofs.stopping.note_stop.Goals as goal

pub returns-in-Ok-clause-noted : goal.returns-in-Ok-clause-noted
returns-in-Ok-clause-noted g c =
    let fault = c.args.fault.now in
    let is : is_of_record fault.kind ≡ true = cc (c.is_of_record.ensures, c.if-not-is_of_record.false) in
    let same = noted_of_first g.B.Bounds.limits c.limits-limits.result fault (last_record c.args.recording.now.rows) c.as_slice.result.now c.in-Ok.fields.items
    c.limits-limits.ensures is c.as_slice.ensures.value c.in-Ok.ensures in
    record {
      noted = λ some. subst (IsNoted (g.N.Write.contents c.args.notes.now) (g.N.Write.contents c.note_row-in-Ok.new.notes)) same
          (c.note_row-in-Ok.ensures.noted some);
      refused = c.note_row-in-Ok.ensures.refused;
    }

pub returns-in-Ok-clause-whole : goal.returns-in-Ok-clause-whole
returns-in-Ok-clause-whole g c whole some =
    let fault = c.args.fault.now in
    let is : is_of_record fault.kind ≡ true = cc (c.is_of_record.ensures, c.if-not-is_of_record.false) in
    let same = noted_of_first g.B.Bounds.limits c.limits-limits.result fault (last_record c.args.recording.now.rows) c.as_slice.result.now c.in-Ok.fields.items
    c.limits-limits.ensures is c.as_slice.ensures.value c.in-Ok.ensures in
    subst (Appends (g.N.Write.contents c.args.notes.now) (g.N.Write.contents c.note_row-in-Ok.new.notes)) same (c.note_row-in-Ok.ensures.whole whole some)
