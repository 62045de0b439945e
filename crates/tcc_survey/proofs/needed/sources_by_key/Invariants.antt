use Rattle.std.proofs.Common.{length}
use Rattle.tcc_graph.specs.Keys.{keys}
use Rattle.tcc_survey.specs.private.Needed.{AreSourcesOf}
use Rattle.tcc_survey.proofs.needed.sources_by_key.Given as goal

abbrev pub invariant-loop-read : goal.invariant-loop-read
invariant-loop-read l = AreSourcesOf l.reads l.read-index (length (keys l.graph)) l.sources.items
