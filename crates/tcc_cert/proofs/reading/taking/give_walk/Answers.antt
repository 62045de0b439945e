-- One more step.
use Rattle.std.proofs.Common.{inr, refl, ◌∙◌}
use Rattle.std.proofs.lemmas.Result.{err_from_is_err_and}
use Rattle.tcc_cert.specs.declared.fault.CertFaultKind.TheVariants.{NoMemory}
use Rattle.tcc_cert.proofs.StepFacts.{part-faults, part-more, part-refused}
use Rattle.tcc_cert.proofs.TakingFacts.{given-all, given-more, given-none, onward-steps, steps_at}
use Rattle.tcc_cert.proofs.reading.taking.give_walk.Goals as goal

pub steps-init : goal.steps-init
steps-init g c = record { works = refl; ready = λ h is. is; read = λ at h sizes links head before taken. given-none g.R.Read.remaining steps_at c.args.count at _ _ taken before }

pub returns-in_err-one-clause-gives : goal.returns-in_err-one-clause-gives
returns-in_err-one-clause-gives g c at h sizes links head before taken =
    let so_far = c.steps.invariant.read at h sizes links head before taken in
    let p = err_from_is_err_and c.from_residual.result c.from_residual.ensures.1 in
    rw (p.1, p.2) (part-faults steps_at c.args.count at so_far.items c.steps.counter so_far.now _ c.steps-test.true
    onward-steps so_far.part (c.in_err-one.ensures.gives so_far.now so_far.there))

pub returns-in-Err-clause-gives : goal.returns-in-Err-clause-gives
returns-in-Err-clause-gives g c at h sizes links head before taken =
    let so_far = c.steps.invariant.read at h sizes links head before taken in
    let one = c.in_ok-one.ensures.gives so_far.now so_far.there in
    let more =
    part-more steps_at c.args.count at so_far.items c.steps.counter so_far.now one.0 c.in_ok-one.one c.steps-test.true
    (onward-steps c.steps.counter so_far.now) so_far.part one.1 in
    rw (c.fault.ensures, one.2.number) (part-refused steps_at c.args.count at _ _ one.0 NoMemory onward-steps more (inr refl))

pub steps-preserved : goal.steps-preserved
steps-preserved g c = record {
  works = c.in_ok-one.ensures.works ∙ c.steps.invariant.works;
  ready = λ h is. c.step.ensures.ready h (c.steps.invariant.ready h is);
  read = λ at h sizes links head before taken.
      let so_far = c.steps.invariant.read at h sizes links head before taken in
      given-more g.R.Read.remaining steps_at c.args.count at _ _ c.steps.counter _ _ so_far c.in_ok-one.one c.steps-test.true
      (onward-steps c.steps.counter so_far.now) (c.in_ok-one.ensures.gives so_far.now so_far.there)
      (c.in-Ok.ensures.step h sizes links head so_far.items so_far.holds);
}

pub returns-clause-gives : goal.returns-clause-gives
returns-clause-gives g c at h sizes links head before taken =
    given-all g.R.Read.remaining steps_at c.args.count at _ c.steps.counter _ _ c.steps-test.false
    (c.steps.invariant.read at h sizes links head before taken)
