use Rattle.std.proofs.Common.{rules, ◌≡◌}
use Rattle.tcc_survey_run.proofs.noting.note_no_answer.Goals as goal

pub returns-then-code : goal.returns-then-code
returns-then-code g c =
    let well : c.args.code ≡ 0 = search rules in
    rw well c.note_nothing.ensures
