use Rattle.std.proofs.Common.{◌≡◌, ◌*◌, length}
use Rattle.tcc_core.specs.private.Offers.{IsOffered}
use Rattle.tcc_core.specs.private.Marked.{IsMet}
use Rattle.tcc_core.proofs.MarkedWays.{IsMarkWayUpTo}
use Rattle.tcc_core.proofs.marked.offer_words.Given as goal

abbrev pub invariant-loop-index : goal.invariant-loop-index
invariant-loop-index l = record {
  same : length l.met ≡ length l.initial.met;
  floor : l.queue.floor ≡ l.initial.queue.floor;
  met : IsMet l.cost l.met l.queue.costs;
  offered : IsOffered (IsMarkWayUpTo l.marks l.index (l.from * 64) l.cost) l.initial.queue.floor l.initial.queue.costs l.queue.costs;
}
