-- After the rows of `near` the mark was read, and then the first row of `far`.
use Rattle.std.proofs.Common.{◌≡◌, arith, codes}
use Rattle.std.proofs.lemmas.Result.{err_from_is_err_and}
use Rattle.tcc_cert.specs.declared.reading.shape.TableShape.TheVariants as shape
use Rattle.tcc_cert.specs.Parts.{far_rows}
use Rattle.tcc_cert.proofs.StageFacts.{mark-faults, mark-then, onward-table}
use Rattle.tcc_cert.proofs.reading.stages.behind_table.Goals as goal

pub returns-in_err-mark-in-Near-clause-step : goal.returns-in_err-mark-in-Near-clause-step
returns-in_err-mark-in-Near-clause-step g c at before =
    let v = c.args.last.version in
    let n = c.in-Near.transactions in
    let p = err_from_is_err_and c.from_residual.result c.from_residual.ensures.1 in
    rw (p.1, p.2, c.in-Near.is) (mark-faults v (codes "far") (far_rows v n 0 n) at _ (onward-table v (shape.Far n) 0 n)
    (c.in_err-mark-in-Near.ensures.gives at before))

pub returns-then-transactions-eq0-clause-step : goal.returns-then-transactions-eq0-clause-step
returns-then-transactions-eq0-clause-step g c at before =
    let v = c.args.last.version in
    let none : c.in-Near.transactions ≡ 0 = c.if-transactions-eq0.true in
    let read = c.in_ok-mark-in-Near.ensures.gives at before in
    rw (c.in-Near.is, none) (mark-then g.R.Read.remaining v (codes "far") (far_rows v 0 0 0) at c.end-then-transactions-eq0.result c.end-then-transactions-eq0.new.input read.1
    (c.end-then-transactions-eq0.ensures.step read.0 read.2))

pub returns-else-transactions-eq0-clause-step : goal.returns-else-transactions-eq0-clause-step
returns-else-transactions-eq0-clause-step g c at before =
    let v = c.args.last.version in
    let n = c.in-Near.transactions in
    let read = c.in_ok-mark-in-Near.ensures.gives at before in
    rw c.in-Near.is (mark-then g.R.Read.remaining v (codes "far") (far_rows v n 0 n) at c.table_row.result c.table_row.new.input read.1
    (c.table_row.ensures.step read.0 0 (omega arith) read.2))
