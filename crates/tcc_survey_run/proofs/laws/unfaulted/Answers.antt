use Rattle.tcc_survey_run.proofs.Unfaulted as proofs
use Rattle.tcc_survey_run.proofs.laws.unfaulted.Goals as goal

pub returns : goal.returns
returns c = proofs.unfaulted
