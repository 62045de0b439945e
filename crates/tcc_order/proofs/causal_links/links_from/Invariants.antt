use Rattle.std.proofs.Common.{◌≡◌, ◌*◌, length}
use Rattle.tcc_reads.specs.History.{count}
use Rattle.tcc_order.specs.private.CausalLinks.{AreDerived, AreEnough, IsFrom, Overwrites}
use Rattle.tcc_clocks.specs.declared.latest.TheConstants.{WIDE}
use Rattle.tcc_order.proofs.causal_links.links_from.Given as goal

abbrev pub invariant-loop-block : goal.invariant-loop-block
invariant-loop-block l =
    (length l.table ≡ count l.sweep.graph.now)
    × (length l.kept ≡ count l.sweep.graph.now)
    × AreDerived (Overwrites l.sweep.graph.now) l.kept
    × AreEnough l.sweep.graph.now (Overwrites l.sweep.graph.now) (IsFrom l.sweep.graph.now (l.first * WIDE) (l.block * WIDE)) l.kept
    × (length l.last.items ≡ length l.initial.last.items)
    × (length l.heads.items ≡ length l.initial.heads.items)
