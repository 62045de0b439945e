-- A row's line is written after the lines so far.
use Rattle.tcc_cert.specs.Texts.{line_text, numbers_words}
use Rattle.tcc_cert.proofs.SentFacts.{failed}
use Rattle.tcc_cert.proofs.Items.{Sends-read, Stops-read, Sends-all, flat_map-map}
use Rattle.tcc_cert.proofs.lines.table.Goals as goal

pub returns-in_err-number_line : goal.returns-in_err-number_line
returns-in_err-number_line g c =
    failed c.from_residual.result _ _ _ _ _ c.from_residual.ensures.0
    (rw (flat_map-map line_text numbers_words c.args.table.now, ← c.as_slice-row-items.ensures)
    (Stops-read (λ row. line_text (numbers_words row)) c.as_slice-row-items.result.now c.loop-row.row-index c.row-item.result c.loop-row-test.true c.row-item.is
    c.loop-row.invariant
    (rw (← c.as_slice.ensures) c.in_err-number_line.ensures)))

pub loop-row-preserved : goal.loop-row-preserved
loop-row-preserved g c =
    Sends-read (λ row. line_text (numbers_words row)) c.as_slice-row-items.result.now c.loop-row.row-index c.row-item.result c.loop-row-test.true c.row-item.is
    c.loop-row.invariant
    (rw (← c.as_slice.ensures) c.in_ok-number_line.ensures)

pub returns : goal.returns
returns g c =
    rw (flat_map-map line_text numbers_words c.args.table.now, ← c.as_slice-row-items.ensures)
    (Sends-all (λ row. line_text (numbers_words row)) c.as_slice-row-items.result.now c.loop-row.row-index c.loop-row-test.false c.loop-row.invariant)
