use Rattle.std.proofs.Common.{◌≡◌, ◌<◌, ◌≤◌, ℕ}
use Rattle.std.specs.Int.{bit_at}
use Rattle.tcc_core.specs.private.Offers.{IsOffered}
use Rattle.tcc_core.proofs.MarkedWays.{IsWayOut}
use Rattle.tcc_core.proofs.marked.offer_word.Given as goal

abbrev pub invariant-loop-left : goal.invariant-loop-left
invariant-loop-left l = record {
  within : (i : ℕ) → i < 64 → bit_at l.left i ≤ bit_at l.word i;
  floor : l.queue.floor ≡ l.initial.queue.floor;
  offered : IsOffered (IsWayOut l.word l.left l.first l.cost) l.initial.queue.floor l.initial.queue.costs l.queue.costs;
}

abbrev pub decreases-loop-left : goal.decreases-loop-left
decreases-loop-left l = l.left
