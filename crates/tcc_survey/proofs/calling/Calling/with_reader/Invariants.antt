use Rattle.std.proofs.Common.{◌≤◌, length}
use Rattle.tcc_survey.specs.private.Called.{IsNoLater}
use Rattle.tcc_survey.specs.private.Calling.{IsCalledSoFar}
use Rattle.tcc_survey.proofs.ManyLemmas.{AreReadersMet}
use Rattle.tcc_survey.proofs.calling.Calling.with_reader.Given as goal

abbrev pub invariant-loop-source : goal.invariant-loop-source
invariant-loop-source l = record {
  far : l._source ≤ l.next;
  within : l.next ≤ length l.self.sources.now;
  called : IsCalledSoFar l.self l.best;
  kept : IsNoLater l.best l.fn.one;
  met : AreReadersMet l.self l.lane l.next l.best;
}
