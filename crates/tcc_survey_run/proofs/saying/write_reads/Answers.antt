use Rattle.std.proofs.Common.{subst}
use Rattle.std.specs.Io.KnownBytes.{Appends}
use Rattle.tcc_survey_run.specs.Surveys.{BreaksOff, read_line}
use Rattle.tcc_survey_run.specs.declared.told.ToldRead.{ToldRead}
use Rattle.tcc_survey_run.proofs.Breaking.{breaks_ending, ended_by, lines_break, lines_more}
use Rattle.tcc_survey_run.proofs.LineEnds.{read_ends}
use Rattle.tcc_survey_run.proofs.saying.write_reads.Goals as goal

pub returns-in_err-write_line-clause-ended : goal.returns-in_err-write_line-clause-ended
returns-in_err-write_line-clause-ended g c =
    let json = c.args.json in
    let h = c.args.graph.now in
    let code = c.in_err-write_line.field-0.0 in
    ended_by _ c.from_residual.result code c.from_residual.ensures.1
    (lines_break json (read_line json h) _ _ _ c.args.told.now c.loop-one.one-index c.one-item.result code c.loop-one-test.true (read_ends json h) c.loop-one.invariant
    (subst (λ (one : ToldRead). BreaksOff json (g.W.Write.contents c.loop-one.out) (g.W.Write.contents c.write_line.new.out) (read_line json h one) code)
    c.one-item.is (breaks_ending json _ _ _ code (c.in_err-write_line.ensures.ended _ c.read_line.ensures))))

pub loop-one-preserved : goal.loop-one-preserved
loop-one-preserved g c =
    let json = c.args.json in
    let h = c.args.graph.now in
    lines_more (read_line json h) _ _ _ c.args.told.now c.loop-one.one-index c.one-item.result c.loop-one-test.true c.loop-one.invariant
    (subst (λ (one : ToldRead). Appends (g.W.Write.contents c.loop-one.out) (g.W.Write.contents c.write_line.new.out) (read_line json h one))
    c.one-item.is (c.in_ok-write_line.ensures.whole _ c.read_line.ensures))
