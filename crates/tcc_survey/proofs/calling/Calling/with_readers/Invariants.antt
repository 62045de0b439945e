use Rattle.std.proofs.Common.{◌<◌, ℕ}
use Rattle.tcc_survey.specs.private.Called.{IsNoLater}
use Rattle.tcc_survey.specs.private.Calling.{IsBeforeAll, IsCalledSoFar, IsReaderOnLane}
use Rattle.tcc_survey.proofs.calling.Calling.with_readers.Given as goal

abbrev pub invariant-loop-lane : goal.invariant-loop-lane
invariant-loop-lane l = record {
  called : IsCalledSoFar l.self l.best;
  kept : IsNoLater l.best l.fn.one;
  met : (k : ℕ) → k < l.lane → IsBeforeAll l.self (IsReaderOnLane l.self k) l.best;
}
