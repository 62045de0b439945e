use Rattle.std.proofs.Common.{◌∙◌, arith}
use Rattle.std.proofs.lemmas.List.{get_or_default}
use Rattle.tcc_survey.proofs.circle.trail_from.Goals as goal

pub returns : goal.returns
returns c =
    let (k, l, e) = c.requires in
    absurd (c.loop-start.invariant k (omega (arith, l, c.loop-start-test.false)) (get_or_default c.args.trail.now k 0 c.args.at l ∙ e))
