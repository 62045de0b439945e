use Rattle.std.proofs.Common.{sym, subst, take, drop}
use Rattle.std.proofs.lemmas.List.{take-append-drop}
use Rattle.tcc_rows.specs.Answers.{answers_of}
use Rattle.tcc_txn.specs.Finished.{KeepsLimits}
use Rattle.tcc_rows.specs.Items.{finished_in}
use Rattle.tcc_txn.specs.declared.limits.Limits.TheVariants.{Small}
use Rattle.tcc_rows.proofs.FinishedFacts.{limits-before, no-snapshot-fault}
use Rattle.tcc_rows.proofs.SettlingLimits.{text-limits}
use Rattle.tcc_rows.proofs.laws.finished_is_snapshot.Goals as goal

pub returns-clause-limits : goal.returns-clause-limits
returns-clause-limits c text n =
    let items = (answers_of text).items in
    limits-before Small (take n items) (drop n items) (subst (λ all. KeepsLimits (finished_in all)) (sym (take-append-drop n items)) (text-limits Small text))

pub returns-clause-taken : goal.returns-clause-taken
returns-clause-taken c text n = no-snapshot-fault Small (finished_in (take n (answers_of text).items)) (returns-clause-limits c text n)
