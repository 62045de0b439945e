use Rattle.std.proofs.Common.{◌≡◌, length}
use Rattle.tcc_reads.specs.History.{count}
use Rattle.tcc_order.proofs.Stepped.{KeepsBelow}
use Rattle.tcc_order.proofs.atomic_links.atomic_links.Given as goal

abbrev pub invariant-loop-a : goal.invariant-loop-a
invariant-loop-a l = (length l.places.items ≡ count l.graph) × KeepsBelow l.graph l.a l.kept
