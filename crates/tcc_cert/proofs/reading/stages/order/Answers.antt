-- The order was read.
use Rattle.std.proofs.Common.{refl}
use Rattle.std.proofs.lemmas.Result.{err_from_is_err_and}
use Rattle.tcc_cert.specs.declared.ranges.TextFormat.TheVariants.{Small}
use Rattle.tcc_cert.specs.Ranges.{ranges_of}
use Rattle.tcc_cert.specs.Parts.{order_rest}
use Rattle.tcc_cert.specs.Reading.{numbers_line, words}
use Rattle.tcc_cert.proofs.StageFacts.{onward-rest, part-faults}
use Rattle.tcc_cert.proofs.reading.stages.order.Goals as goal

pub returns-in_err-order-clause-step : goal.returns-in_err-order-clause-step
returns-in_err-order-clause-step g c at before =
    let v = c.args.version in
    let n = c.args.sizes.transactions in
    let p = err_from_is_err_and c.from_residual.result c.from_residual.ensures.1 in
    rw (p.1, p.2) (part-faults (words (Small v) (numbers_line n (ranges_of v).number) at) _ _ (λ order. onward-rest v c.args.level n c.args.sizes.sessions order.1)
    (rw c.ranges_of.ensures.value at (c.in_err-order.ensures.gives at before)))

pub returns-clause-step : goal.returns-clause-step
returns-clause-step g c at before =
    let order = rw c.ranges_of.ensures.value at (c.in_ok-order.ensures.gives at before) in (
      order_rest c.args.version c.args.level c.args.sizes.transactions c.args.sizes.sessions order.0,
      rw order.1 refl,
      (order.0, order.2, c.behind_order-coming.ensures.behind order.0),
    )
