use Rattle.std.proofs.Common.{sym, ◌∙◌, arith}
use Rattle.std.proofs.lemmas.Bool.{false≢true}
use Rattle.tcc_survey.proofs.circle.first_left.Goals as goal

pub returns : goal.returns
returns c =
    let w = c.requires.some in
    absurd (false≢true (sym w.2 ∙ c.loop-c.invariant w.0 (omega (arith, w.1, c.loop-c-test.false, c.count-c-end.ensures.value))))
