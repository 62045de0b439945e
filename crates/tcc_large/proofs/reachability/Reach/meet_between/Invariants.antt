use Rattle.tcc_large.specs.private.Reaching.{IsReach, IsMore, AreMetBetween, number_at}
use Rattle.tcc_large.proofs.reachability.Reach.meet_between.Given as goal

abbrev pub invariant-loop-number : goal.invariant-loop-number
invariant-loop-number l = record {
  reach : IsReach l.graph l.self.positions l.self.covered l.self.queue.items;
  more : IsMore l.initial.self.positions l.initial.self.queue.items l.self.positions l.self.queue.items;
  met : AreMetBetween l.graph l.self.positions (number_at l.initial.self.queue.items l.position) l.low l.number;
}
