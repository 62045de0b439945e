use Rattle.std.proofs.Common.{◌≡◌, length, map}
use Rattle.std.specs.Prelude.{zip}
use Rattle.tcc_graph.specs.Keys.{key_at}
use Rattle.tcc_order.specs.private.AtomicLinks.{KeepsSome}
use Rattle.tcc_order.proofs.Readings.{IsTaken}
use Rattle.tcc_order.proofs.atomic_links.links_into.Given as goal

abbrev pub invariant-loop-index : goal.invariant-loop-index
invariant-loop-index l =
    (length l.places ≡ length l.initial.places)
    × KeepsSome l.graph l.a (IsTaken (zip l.readers (map (key_at l.graph) l.key_indices)) l.index) l.kept
