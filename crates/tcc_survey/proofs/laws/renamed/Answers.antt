use Rattle.tcc_survey.proofs.RenamingLemmas.{renamed_called, renamed_names}
use Rattle.tcc_survey.proofs.laws.renamed.Goals as goal

pub returns-clause-called : goal.returns-clause-called
returns-clause-called c = λ h g to back alike level c x a below source. renamed_called h g to back alike level c x a below source

pub returns-clause-names : goal.returns-clause-names
returns-clause-names c = λ h g to back alike level c x a below source. renamed_names h g to back alike level c x a below source
