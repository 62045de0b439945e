-- The certificate comes first, and then the slice.
use Rattle.std.proofs.Common.{inl}
use Rattle.tcc_print.proofs.Courses.{Gains-none}
use Rattle.tcc_run.specs.private.Stages.{outcome_said}
use Rattle.tcc_run.proofs.Files.{both_files, files_stop}
use Rattle.tcc_run.proofs.writing.write_files.Goals as goal

pub returns-in_err-write_certificate : goal.returns-in_err-write_certificate
returns-in_err-write_certificate g c = λ is.
    files_stop c.args.run.now.options.now c.args.snapshot.now (outcome_said c.args.run.now.options.now c.args.outcome.now) c.from_residual.result
    c.in_err-write_certificate.field-0.0 _ _ _ _ c.from_residual.ensures.1 (inl (c.in_err-write_certificate.ensures, Gains-none _))

pub returns : goal.returns
returns g c = λ is.
    both_files c.args.run.now.options.now c.args.snapshot.now (outcome_said c.args.run.now.options.now c.args.outcome.now) c.write_slice.result _ _ _ _ _ _ _
    c.in_ok-write_certificate.ensures (c.write_slice.ensures is)
