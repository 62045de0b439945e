use Rattle.tcc_survey_run.specs.Surveys.{name_line}
use Rattle.tcc_survey_run.proofs.Breaking.{breaks_ending, ended_by, lines_break, lines_more}
use Rattle.tcc_survey_run.proofs.LineEnds.{name_ends}
use Rattle.tcc_survey_run.proofs.saying.write_names.Goals as goal

pub returns-in_err-write_line-clause-ended : goal.returns-in_err-write_line-clause-ended
returns-in_err-write_line-clause-ended g c =
    ended_by _ c.from_residual.result c.in_err-write_line.field-0.0 c.from_residual.ensures.1
    (lines_break c.args.json (name_line c.args.json) _ _ _ c.args.names.now c.loop-one.one-index _ c.in_err-write_line.field-0.0 c.loop-one-test.true (name_ends c.args.json) c.loop-one.invariant
    (breaks_ending c.args.json _ _ _ c.in_err-write_line.field-0.0 (c.in_err-write_line.ensures.ended _ c.name_line.ensures)))

pub loop-one-preserved : goal.loop-one-preserved
loop-one-preserved g c =
    lines_more (name_line c.args.json) _ _ _ c.args.names.now c.loop-one.one-index _ c.loop-one-test.true c.loop-one.invariant
    (c.in_ok-write_line.ensures.whole _ c.name_line.ensures)
