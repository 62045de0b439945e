use Rattle.std.proofs.Common.{sym, ap, ◌∙◌}
use Rattle.csv.specs.Records.{fields_of}
use Rattle.tcc_full.specs.Rows.{rows_in}
use Rattle.tcc_full.proofs.Noting.{fieldless, nameless, noted_begin, noted_operation, noted_unknown, on_ok}
use Rattle.tcc_full.proofs.rows.OperationRows.note.Goals as goal

pub returns-in_default : goal.returns-in_default
returns-in_default c = λ name lawful.
    sym (fieldless name c.args.row (fields_of c.args.fields.now) (rows_in c.args.self.now name) (sym c.in_default.ensures.value))

pub returns-in_default-read : goal.returns-in_default-read
returns-in_default-read c =
    nameless c.args.self.now (fields_of c.args.fields.now) c.args.row c.in-Some.session.now c.in_default-read.field-0 c.in-Some.ensures.value
    (sym c.in_default-read.ensures)

pub returns-then-len-eq4 : goal.returns-then-len-eq4
returns-then-len-eq4 c =
    on_ok c.operate.result
    (noted_operation c.args.self.now c.operate.new.self (fields_of c.args.fields.now) c.args.row (record { row = c.args.row; writes = c.is_write-writes.result }) c.in-Some.session.now c.in-Ok.session
    (sym c.len.ensures ∙ c.if-len-eq4.true) c.in-Some.ensures.value (sym c.in-Ok.ensures) (ap (λ writes. record { row = c.args.row; writes = writes }) c.is_write-writes.ensures)) c.operate.ensures

pub returns-then-is_word : goal.returns-then-is_word
returns-then-is_word c =
    on_ok c.begin.result
    (noted_begin c.args.self.now c.begin.new.self (fields_of c.args.fields.now) c.args.row c.in-Some.session.now c.in-Ok.session
    (sym c.is_word.ensures ∙ c.if-is_word.true) c.in-Some.ensures.value (sym c.in-Ok.ensures)) c.begin.ensures

pub returns-then-is_word-2 : goal.returns-then-is_word-2
returns-then-is_word-2 c =
    noted_unknown c.args.self.now c.leave.new.self (fields_of c.args.fields.now) c.args.row c.in-Some.session.now c.in-Ok.session
    (sym c.is_word.ensures ∙ c.if-is_word.false) (sym c.is_word-2.ensures ∙ c.if-is_word-2.true) c.in-Some.ensures.value (sym c.in-Ok.ensures) c.leave.ensures
