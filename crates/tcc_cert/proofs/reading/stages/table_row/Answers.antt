-- One more row.
use Rattle.std.proofs.Common.{◌≡◌, suc, ◌+◌, ◌-◌, refl, arith}
use Rattle.std.proofs.lemmas.Result.{err_from_is_err_and}
use Rattle.tcc_cert.specs.Shapes.{table_rows}
use Rattle.tcc_cert.proofs.StageFacts.{row-faults, row-first, row-more}
use Rattle.tcc_cert.proofs.reading.stages.table_row.Goals as goal

pub returns-in_err-numbers-clause-step : goal.returns-in_err-numbers-clause-step
returns-in_err-numbers-clause-step g c at from all before =
    let p = err_from_is_err_and c.from_residual.result c.from_residual.ensures.1 in
    let more : c.args.left.many ≡ suc (c.args.left.many - 1) = omega (arith, c.requires) in
    rw (p.1, p.2)
    (row-faults c.args.left.version c.args.left.table from (c.args.left.many - 1) c.args.left.many at _ more
    (rw (c.columns-columns.ensures from all, c.most.ensures) at (c.in_err-numbers.ensures.gives at before)))

pub returns-clause-step : goal.returns-clause-step
returns-clause-step g c at from all before =
    let left = c.args.left.many - 1 in
    let more : c.args.left.many ≡ suc left = omega (arith, c.requires) in
    let row = rw (c.columns-columns.ensures from all, c.most.ensures) at (c.in_ok-numbers.ensures.gives at before) in (
      table_rows c.args.left.version c.args.left.table (from + 1) left row.0,
      rw c.part.ensures
          (row-first c.args.left.table c.in_ok-numbers.numbers _
          _ (row-more c.args.left.version c.args.left.table from left c.args.left.many at row.0 c.in_ok-numbers.numbers more row.1)),
      (row.0, row.2, (from + 1, omega (arith, more, all), refl)),
    )
