use Rattle.tcc_survey_run.proofs.noting.note_nothing.Goals as goal

pub returns : goal.returns
returns g c = c.send_note.ensures
