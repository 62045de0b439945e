use Rattle.std.proofs.Common.{take}
use Rattle.tcc_graph.specs.Keys.{keys}
use Rattle.tcc_derive.proofs.ChoiceLemmas.{IsBestChoice}
use Rattle.tcc_derive.proofs.choices.choice.Given as goal

abbrev pub invariant-loop-key : goal.invariant-loop-key
invariant-loop-key l = IsBestChoice l.graph l.steps l.b l.a (take l.key-index (keys l.graph)) l.least l.best
