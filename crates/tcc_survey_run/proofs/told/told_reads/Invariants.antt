use Rattle.std.proofs.Common.{◌<◌, All, take}
use Rattle.std.specs.List.{AllZip}
use Rattle.tcc_reads.specs.History.{count}
use Rattle.tcc_survey_run.specs.Told.{IsToldOf}
use Rattle.tcc_survey_run.proofs.told.told_reads.Given as goal

abbrev pub invariant-loop-one : goal.invariant-loop-one
invariant-loop-one g l = record {
  each : AllZip (IsToldOf l.snapshot l.graph) (take l.one-index l.found) l.told.items;
  inside : All (λ one. (one.reader < count l.graph) × (one.writer < count l.graph)) l.told.items;
}
