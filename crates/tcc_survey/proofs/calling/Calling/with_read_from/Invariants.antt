use Rattle.std.proofs.Common.{◌<◌, ℕ}
use Rattle.tcc_survey.specs.private.Calling.{IsBeforeAll, IsByWriter, IsCalledSoFar}
use Rattle.tcc_survey.proofs.BesideLemmas.{source_at}
use Rattle.tcc_survey.proofs.calling.Calling.with_read_from.Given as goal

abbrev pub invariant-loop-read : goal.invariant-loop-read
invariant-loop-read l = record {
  called : IsCalledSoFar l.self l.best;
  met : (k : ℕ) → k < l.read-index → IsBeforeAll l.self (IsByWriter (source_at l.read-items k)) l.best;
}
