use Rattle.std.proofs.Common.{rules}
use Rattle.std.proofs.lemmas.List.Sorted.{answers_always}
use Rattle.tcc_survey_run.proofs.told.sort_by_operation.Goals as goal

-- the closure gives the key of each
pub returns-clause-sorted : goal.returns-clause-sorted
returns-clause-sorted c = c.sort_unstable_by_key.ensures.sorted (λ one. (one.reader, one.op)) (answers_always _ _ _ (λ f a r k called. search rules))
