use Rattle.std.proofs.Common.{refl}
use Rattle.tcc_rows.specs.Answers.{answers_of}
use Rattle.tcc_run.proofs.OneRun.{front_again, stopped_again, whole_again}
use Rattle.tcc_run.proofs.laws.one_run.Goals as goal

pub returns-clause-whole : goal.returns-clause-whole
returns-clause-whole c =
    λ options others records said again alike is too. whole_again c.one_answer.ensures.whole options others alike (answers_of records)
    (answers_of records) said again refl is too

pub returns-clause-stopped : goal.returns-clause-stopped
returns-clause-stopped c =
    λ options others records said again alike is too. stopped_again c.one_answer.ensures.whole options others alike (answers_of records) said again is too

pub returns-clause-front : goal.returns-clause-front
returns-clause-front c =
    λ options others records said again answers more alike is too. front_again c.one_answer.ensures.whole options others alike records said again
    answers more is too
