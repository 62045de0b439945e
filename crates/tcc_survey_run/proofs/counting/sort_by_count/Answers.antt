use Rattle.std.proofs.Common.{rules}
use Rattle.std.proofs.lemmas.List.Sorted.{answers_always}
use Rattle.tcc_survey.specs.Names.{rank}
use Rattle.tcc_survey_run.specs.Told.{falling}
use Rattle.tcc_survey_run.proofs.counting.sort_by_count.Goals as goal

-- the closure gives the key of each
pub returns-clause-sorted : goal.returns-clause-sorted
returns-clause-sorted c = c.sort_unstable_by_key.ensures.sorted (λ one. (falling one.count, rank one.name)) (answers_always _ _ _ (λ f a r k called. search rules))
