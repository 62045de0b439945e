-- One more link.
use Rattle.std.proofs.Common.{◌≡◌, suc, ◌+◌, ◌-◌, refl, arith}
use Rattle.std.proofs.lemmas.Result.{err_from_is_err_and}
use Rattle.tcc_cert.specs.Parts.{link_rows}
use Rattle.tcc_cert.proofs.StageFacts.{link-faults, link-more}
use Rattle.tcc_cert.proofs.reading.stages.next_link.Goals as goal

pub returns-in_err-one-clause-step : goal.returns-in_err-one-clause-step
returns-in_err-one-clause-step g c at from before =
    let p = err_from_is_err_and c.from_residual.result c.from_residual.ensures.1 in
    let more : c.args.left.many ≡ suc (c.args.left.many - 1) = omega (arith, c.requires) in
    rw (p.1, p.2) (link-faults c.args.left.version c.args.left.transactions from (c.args.left.many - 1) c.args.left.many at _ more (c.in_err-one.ensures.gives at before))

pub returns-clause-step : goal.returns-clause-step
returns-clause-step g c at from before =
    let left = c.args.left.many - 1 in
    let more : c.args.left.many ≡ suc left = omega (arith, c.requires) in
    let one = c.in_ok-one.ensures.gives at before in (
      link_rows c.args.left.version c.args.left.transactions (from + 1) left one.0,
      link-more c.args.left.version c.args.left.transactions from left c.args.left.many at one.0 c.in_ok-one.one more one.1,
      (one.0, one.2, (from + 1, refl)),
    )
