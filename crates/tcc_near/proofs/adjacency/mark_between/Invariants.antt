use Rattle.std.proofs.Common.{◌≡◌, ◌≤◌, length}
use Rattle.tcc_bits.proofs.MarkLemmas.{AddsBetween}
use Rattle.tcc_near.proofs.adjacency.mark_between.Given as goal

abbrev pub invariant-loop-number : goal.invariant-loop-number
invariant-loop-number l =
    (length l.words ≡ length l.initial.words) × (l.first ≤ l.number) × AddsBetween l.initial.words l.words l.first l.number
