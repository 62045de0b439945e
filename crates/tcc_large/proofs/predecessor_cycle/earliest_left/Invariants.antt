use Rattle.std.proofs.Common.{◌≡◌, ◌-◌, ◌⊎◌, false}
use Rattle.tcc_graph.specs.Relations.{IsSessionPair}
use Rattle.tcc_bits.specs.Bits.{is_marked}
use Rattle.tcc_large.proofs.predecessor_cycle.earliest_left.Given as goal

abbrev pub invariant-loop-more : goal.invariant-loop-more
invariant-loop-more l =
    (is_marked l.placed (l.number - l.more) ≡ false) × ((l.number - l.more ≡ l.number) ⊎ IsSessionPair l.graph (l.number - l.more) l.number)
