use Rattle.std.proofs.Common.{◌≡◌, length}
use Rattle.tcc_clocks.specs.Needed.{HaveGrown}
use Rattle.tcc_clocks.proofs.NeededLemmas.{AreSourcesTo}
use Rattle.tcc_clocks.proofs.needed.add_sources_read.Given as goal

abbrev pub invariant-loop-read : goal.invariant-loop-read
invariant-loop-read l =
    (length l.sources ≡ length l.initial.sources) × HaveGrown l.initial.sources l.sources × AreSourcesTo l.read-items l.read-index l.sources
