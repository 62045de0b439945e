use Rattle.std.proofs.Common.{take, flat_map}
use Rattle.std.specs.Io.KnownBytes.{Appends}
use Rattle.tcc_survey_run.specs.Surveys.{name_line}
use Rattle.tcc_survey_run.proofs.saying.write_names.Given as goal

abbrev pub invariant-loop-one : goal.invariant-loop-one
invariant-loop-one g l =
    Appends (g.W.Write.contents l.initial.out) (g.W.Write.contents l.out) (flat_map (name_line l.json) (take l.one-index l.names))
