use Rattle.std.proofs.Common.{◌≡◌, ◌<◌, ◌-◌, length}
use Rattle.tcc_reads.specs.History.{owner}
use Rattle.tcc_order.specs.private.CausalLinks.{AreDerived, AreEnough, AreRuns, AreStillKept, Overwrites}
use Rattle.tcc_clocks.specs.declared.latest.TheConstants.{WIDE}
use Rattle.tcc_order.proofs.KeptRows.{renewed}
use Rattle.tcc_order.proofs.Needing.{IsUpTo}
use Rattle.tcc_order.proofs.causal_links.keep_block.Given as goal

abbrev pub invariant-loop-a : goal.invariant-loop-a
invariant-loop-a l =
    (length l.need ≡ WIDE)
    × (length l.run ≡ WIDE)
    × (length l.more ≡ l.a)
    × AreDerived (Overwrites l.graph) (renewed l.more l.kept l.a)
    × AreEnough l.graph (Overwrites l.graph) (IsUpTo l.graph l.from l.a) (renewed l.more l.kept l.a)
    × (1 < l.a → AreRuns l.graph (renewed l.more l.kept l.a) l.from l.a (owner l.graph (l.a - 1)) l.run)
    × AreStillKept l.kept (renewed l.more l.kept l.a)
