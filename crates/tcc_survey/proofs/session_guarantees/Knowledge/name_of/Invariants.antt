use Rattle.tcc_graph.specs.Keys.{key_at}
use Rattle.tcc_survey.specs.private.Spells.{NoneBefore}
use Rattle.tcc_survey.proofs.session_guarantees.Knowledge.name_of.Given as goal

abbrev pub invariant-loop-name : goal.invariant-loop-name
invariant-loop-name l = NoneBefore l.self.graph.now l.self.reader (key_at l.self.graph.now l.self.key_index) l.b l.name-index
