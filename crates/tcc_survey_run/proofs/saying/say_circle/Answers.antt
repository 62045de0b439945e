use Rattle.std.proofs.Common.{inr}
use Rattle.tcc_survey_run.proofs.Breaking.{breaks_ending}
use Rattle.tcc_survey_run.proofs.saying.say_circle.Goals as goal

pub returns-in-Err : goal.returns-in-Err
returns-in-Err g c = inr (breaks_ending c.args.json _ _ _ c.in-Err.code (c.in-Err.ensures.ended _ c.circle_line.ensures))
