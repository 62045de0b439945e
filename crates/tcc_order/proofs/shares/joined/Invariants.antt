use Rattle.std.proofs.Common.{◌*◌}
use Rattle.tcc_clocks.specs.declared.latest.TheConstants.{WIDE}
use Rattle.tcc_order.specs.private.CausalLinks.{AreLinksFrom}
use Rattle.tcc_order.specs.private.Sweeps.{start_of}
use Rattle.tcc_order.proofs.shares.joined.Given as goal

abbrev pub invariant-loop-part : goal.invariant-loop-part
invariant-loop-part l = AreLinksFrom l.graph 0 (start_of l.shares l.part-index * WIDE) l.kept
