use Rattle.std.proofs.Common.{◌∙◌, ap, inl, inr}
use Rattle.tcc_print.specs.Statuses.{code_of}
use Rattle.tcc_survey_run.specs.Surveys.{survey_status}
use Rattle.tcc_survey_run.proofs.Listing.{said}
use Rattle.tcc_survey_run.proofs.saying.say_found.Goals as goal

pub returns-in-Ok-write_listing : goal.returns-in-Ok-write_listing
returns-in-Ok-write_listing g c =
    let status = c.survey_status.ensures ∙ ap (λ told. survey_status told c.args.faults.now) c.deref.ensures.value in
    said _ _ _ _ _ _ _ _ _ _ c.in-Ok.ensures.told c.in-Ok.ensures.names c.requires.faults
    (inl (c.in-Ok-write_listing.ensures.whole, c.code.ensures ∙ ap code_of status))

pub returns : goal.returns
returns g c =
    said _ _ _ _ _ _ _ _ _ _ c.in-Ok.ensures.told c.in-Ok.ensures.names c.requires.faults
    (inr c.in-Err-write_listing.ensures.ended)
