use Rattle.std.proofs.Common.{◌≡◌, length}
use Rattle.tcc_graph.specs.Keys.{keys}
use Rattle.tcc_clocks.specs.Needed.{AreSourcesRead}
use Rattle.tcc_clocks.proofs.needed.sources_read.Given as goal

abbrev pub invariant-loop-c : goal.invariant-loop-c
invariant-loop-c l = (length l.sources.items ≡ length (keys l.graph)) × AreSourcesRead l.graph l.c l.sources.items
