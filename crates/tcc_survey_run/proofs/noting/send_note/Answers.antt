use Rattle.tcc_survey_run.proofs.Breaking.{sent_noted}
use Rattle.tcc_survey_run.proofs.noting.send_note.Goals as goal

pub returns : goal.returns
returns g c = sent_noted _ _ c.args.text.now c.send.result c.send.ensures.whole c.send.ensures.part
