use Rattle.std.proofs.Common.{◌≡◌, length}
use Rattle.tcc_clocks.specs.Needed.{AreMarked}
use Rattle.tcc_clocks.proofs.needed.mark_keys.Given as goal

abbrev pub invariant-loop-index : goal.invariant-loop-index
invariant-loop-index l = (length l.needed ≡ length l.fn.needed) × AreMarked l.graph l.owners l.sources l.index l.needed
