use Rattle.std.proofs.Common.{◌≡◌, length}
use Rattle.tcc_reads.specs.History.{count}
use Rattle.tcc_graph.specs.Levels.{judged}
use Rattle.tcc_lanes.specs.private.Walks.{AreWalked}
use Rattle.tcc_lanes.proofs.frontier.walked.Given as goal

abbrev pub invariant-loop : goal.invariant-loop
invariant-loop l = record {
  long : length l.reached.items ≡ count l.graph;
  room : length l.underway.items ≡ count l.graph;
  walked : AreWalked (judged l.graph l.level) l.begun l.counter l.reached.items;
}
