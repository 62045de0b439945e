-- The mark was read, and then the first row.
use Rattle.std.proofs.Common.{arith}
use Rattle.std.proofs.lemmas.Result.{err_from_is_err_and}
use Rattle.tcc_cert.specs.Shapes.{height, table_rows, word_before}
use Rattle.tcc_cert.proofs.StageFacts.{mark-faults, mark-then, onward-table}
use Rattle.tcc_cert.proofs.reading.stages.marked.Goals as goal

pub returns-in_err-mark-clause-step : goal.returns-in_err-mark-clause-step
returns-in_err-mark-clause-step g c at before =
    let t = c.args.table in
    let p = err_from_is_err_and c.from_residual.result c.from_residual.ensures.1 in
    rw (p.1, p.2) (mark-faults c.args.version (word_before t) (table_rows c.args.version t 0 (height t)) at _ (onward-table c.args.version t 0 (height t))
    (rw c.word.ensures at (c.in_err-mark.ensures.gives at before)))

pub returns-clause-step : goal.returns-clause-step
returns-clause-step g c at before =
    let t = c.args.table in
    let read = rw c.word.ensures at (c.in_ok-mark.ensures.gives at before) in
    mark-then g.R.Read.remaining c.args.version (word_before t) (table_rows c.args.version t 0 (height t)) at c.rows.result c.rows.new.input read.1
    (rw c.height.ensures at (c.rows.ensures.step read.0 0 (omega (arith, c.height.ensures)) read.2))
