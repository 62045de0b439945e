use Rattle.std.proofs.Common.{◌∙◌, ap, sym}
use Rattle.tcc_rows.specs.Lines.{line_of}
use Rattle.tcc_rows.proofs.LineFacts.{one-field, two-fields}
use Rattle.tcc_rows.proofs.rows.line.read_line.Goals as goal

pub returns-in-1-clause-line : goal.returns-in-1-clause-line
returns-in-1-clause-line c = c.read_seal.ensures.line ∙ ap line_of (one-field _ _ (sym c.len.ensures ∙ c.in-1.is) c.field.ensures)

pub returns-in-2-clause-line : goal.returns-in-2-clause-line
returns-in-2-clause-line c =
    c.read_turn.ensures.line ∙ ap line_of (two-fields _ _ _ (sym c.len.ensures ∙ c.in-2.is) c.field-in-2.ensures c.field-in-2-2.ensures)
