use Rattle.std.proofs.Common.{◌≡◌, ◌++◌, drop}
use Rattle.tcc_survey_run.specs.Told.{names_among}
use Rattle.tcc_survey_run.proofs.counting.names_among.Given as goal

abbrev pub invariant-loop-name : goal.invariant-loop-name
invariant-loop-name l = l.names.items ++ names_among l.told (drop l.name-index l.among) ≡ names_among l.told l.among
