-- The sizes were read, and then what they are of.
use Rattle.std.proofs.Common.{Ok, refl}
use Rattle.tcc_cert.specs.declared.ranges.TextFormat.TheVariants.{Small}
use Rattle.tcc_cert.specs.declared.part.CycleHead.{CycleHead}
use Rattle.tcc_cert.specs.declared.part.Part.TheVariants as part
use Rattle.tcc_cert.specs.declared.reading.stages.ReadingStage.TheVariants as stage
use Rattle.tcc_cert.specs.declared.reading.stages.ExpectedPart.TheVariants as coming
use Rattle.std.proofs.lemmas.Result.{err_from_is_err_and}
use Rattle.tcc_cert.specs.Parts.{link_rows}
use Rattle.tcc_cert.specs.Reading.{sizes_line, words}
use Rattle.tcc_cert.proofs.StageFacts.{onward-claim, part-faults, sizes-then}
use Rattle.tcc_cert.proofs.reading.stages.claim.Goals as goal

pub returns-in_err-sizes-clause-step : goal.returns-in_err-sizes-clause-step
returns-in_err-sizes-clause-step g c at before =
    let v = c.args.version in
    let p = err_from_is_err_and c.from_residual.result c.from_residual.ensures.1 in
    rw (p.1, p.2) (part-faults (words (Small v) (sizes_line (Small v)) at) _ _ (λ sizes. onward-claim v c.args.level sizes.0 sizes.1) (c.in_err-sizes.ensures.gives at before))

pub returns-in-Order-clause-step : goal.returns-in-Order-clause-step
returns-in-Order-clause-step g c at before =
    let sizes = c.in_ok-sizes.ensures.gives at before in
    sizes-then g.R.Read.remaining c.args.version c.args.level at c.order.result c.order.new.input sizes.1
    (rw c.in-Order.is (c.order.ensures.step sizes.0 sizes.2))

pub returns-in-Cycle-clause-step : goal.returns-in-Cycle-clause-step
returns-in-Cycle-clause-step g c at before =
    let sizes = c.in_ok-sizes.ensures.gives at before in
    let cycle = c.in-Cycle.sizes in
    let v = c.args.version in
    let head : CycleHead =
    record { version = v; level = c.args.level; count = cycle.transactions; links = cycle.links; least = cycle.cost } in
    let given = Ok (part.Cycle head, stage.Going (coming.Links (record { version = v; transactions = cycle.transactions; many = cycle.links }))) in
    sizes-then g.R.Read.remaining v c.args.level at given c.next_line.new.input sizes.1
    (rw c.in-Cycle.is (link_rows c.args.version cycle.transactions 0 cycle.links sizes.0, refl, (sizes.0, sizes.2, (0, refl))))
