use Rattle.tcc_rows.specs.Answers.{answers_of}
use Rattle.tcc_run.proofs.Interleaving.{answered-alike, whole-alike}
use Rattle.tcc_run.proofs.OneRun.{whole_again}
use Rattle.tcc_run.proofs.laws.interleaved.Goals as goal

pub returns-clause-same : goal.returns-clause-same
returns-clause-same c = λ options others records other said again asked alike is too.
    let law = c.sealed_alike.ensures in
    let answered =
    answered-alike (answers_of records).items (answers_of other).items (law.seals records other alike is.0) (law.finished records other alike is.0) in
    whole_again c.one_answer.ensures.whole options others asked (answers_of records) (answers_of other) said again answered is too

pub returns-clause-whole : goal.returns-clause-whole
returns-clause-whole c = λ options records other said alike is.
    let law = c.sealed_alike.ensures in
    let answered =
    answered-alike (answers_of records).items (answers_of other).items (law.seals records other alike is.0) (law.finished records other alike is.0) in
    whole-alike options (answers_of records) (answers_of other) said answered (law.lawful records other alike is.0) is
