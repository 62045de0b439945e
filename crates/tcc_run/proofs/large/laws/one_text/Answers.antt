use Rattle.tcc_run.specs.LargeRuns.{answers_of}
use Rattle.tcc_run.proofs.OneText.{said_again, whole_again}
use Rattle.tcc_run.proofs.large.laws.one_text.Goals as goal

pub returns-clause-snapshot : goal.returns-clause-snapshot
returns-clause-snapshot c =
    λ options others s said again alike is too. said_again c.one_answer.ensures.answer c.one_answer.ensures.whole options others alike s said again is too

pub returns-clause-whole : goal.returns-clause-whole
returns-clause-whole c =
    λ options others records said again alike is too. whole_again c.one_answer.ensures.answer c.one_answer.ensures.whole options others alike
    (answers_of records) said again is too
