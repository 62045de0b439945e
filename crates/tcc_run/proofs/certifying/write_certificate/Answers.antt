use Rattle.tcc_run.specs.private.Stages.{outcome_said}
use Rattle.tcc_run.proofs.Files.{certificate_stops}
use Rattle.tcc_run.proofs.certifying.write_certificate.Goals as goal

pub returns-in-Err : goal.returns-in-Err
returns-in-Err g c =
    rw c.in-Some.is
    (certificate_stops c.args.options.now (outcome_said c.args.options.now c.args.outcome.now) _ _ _ _ c.print_device.result
    c.in-Err.ensures c.print_device.ensures)
