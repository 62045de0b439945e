use Rattle.std.proofs.Common.{ap, sym}
use Rattle.std.proofs.lemmas.Bool.{false≢true}
use Rattle.tcc_cert.specs.LargeTexts.{large_certificate_text}
use Rattle.tcc_cert.specs.Texts.{certificate_text}
use Rattle.tcc_answer.specs.Claims.{certificate_of}
use Rattle.tcc_run.specs.private.Stages.{outcome_certificate}
use Rattle.tcc_run.proofs.Files.{sent}
use Rattle.tcc_run.proofs.certifying.send_certificate.Goals as goal

pub returns-in-Tabled : goal.returns-in-Tabled
returns-in-Tabled g c =
    sent (outcome_certificate c.args.outcome.now) (certificate_text (certificate_of c.in-Tabled.answer)) c.write_certificate.result _ _
    (ap outcome_certificate c.in-Tabled.is) c.write_certificate.ensures.whole c.write_certificate.ensures.part

pub returns-in-Large : goal.returns-in-Large
returns-in-Large g c =
    sent (outcome_certificate c.args.outcome.now) (large_certificate_text c.in-Large.claim) c.write_large.result _ _
    (ap outcome_certificate c.in-Large.is) c.write_large.ensures.whole c.write_large.ensures.part

-- a certificate is wanted
pub unreachable-requires : goal.unreachable-requires
unreachable-requires g c = false≢true (sym (rw c.in-Bare.is at c.requires))
