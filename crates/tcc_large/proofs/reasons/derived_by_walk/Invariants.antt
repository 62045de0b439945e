use Rattle.std.proofs.Common.{◌≡◌, ◌<◌, length}
use Rattle.tcc_large.specs.private.Reaching.{IsReach, AreSpread, number_at}
use Rattle.tcc_large.proofs.ReasonLemmas.{NoneUpTo}
use Rattle.tcc_large.proofs.reasons.derived_by_walk.Given as goal

abbrev pub invariant-loop-position : goal.invariant-loop-position
invariant-loop-position l = record {
  reach : IsReach l.graph l.reach.positions l.reach.covered l.reach.queue.items;
  start : number_at l.reach.queue.items 0 ≡ l.from;
  inside : l.position < length l.reach.queue.items;
  spread : AreSpread l.graph l.reach.positions l.reach.queue.items l.position;
  none : NoneUpTo l.graph l.from l.to l.reach.queue.items l.position;
}
