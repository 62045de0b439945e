use Rattle.std.proofs.Common.{◌≡◌, length}
use Rattle.tcc_reads.specs.History.{count}
use Rattle.tcc_order.specs.private.AtomicLinks.{HaveParents}
use Rattle.tcc_order.proofs.atomic_links.parents_of_each.Given as goal

abbrev pub invariant-loop-c : goal.invariant-loop-c
invariant-loop-c l = (length l.places.items ≡ count l.graph) × HaveParents l.graph l.c l.rows
