use Rattle.std.proofs.Common.{◌≡◌, ◌<◌, ◌≤◌}
use Rattle.tcc_core.specs.private.Offers.{IsOffered}
use Rattle.tcc_core.proofs.relaxing.offer_each.Given as goal

abbrev pub invariant-loop-v : goal.invariant-loop-v
invariant-loop-v l = record {
  floor : l.queue.floor ≡ l.initial.queue.floor;
  offered : IsOffered (λ v n. (l.from ≤ v) × (v < l.v) × (l.cost ≡ n)) l.initial.queue.floor l.initial.queue.costs l.queue.costs;
}
