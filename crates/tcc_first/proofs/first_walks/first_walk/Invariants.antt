use Rattle.std.proofs.Common.{◌<◌, ◌≡◌, ◌-◌, ℕ, length}
use Rattle.tcc_reads.specs.History.{count}
use Rattle.tcc_graph.specs.Levels.{judged}
use Rattle.tcc_graph.specs.declared.level.Level.{Level}
use Rattle.tcc_derive.specs.private.LeadingBack.{IsTakenBack, IsLeft}
use Rattle.tcc_lanes.specs.Lengths.{AreWalkLengths}
use Rattle.tcc_lanes.specs.declared.lengths.TheConstants.{NO_WALK}
use Rattle.tcc_first.proofs.first_walks.first_walk.Given as goal

abbrev pub invariant-loop-done : goal.invariant-loop-done
invariant-loop-done l = record {
  taken : IsTakenBack l.graph l.from l.to l.total l.end l.taken.items;
  long : length l.taken.items ≡ l.done;
  left : (level : Level) (most : ℕ) → most < NO_WALK → AreWalkLengths (judged l.graph level) l.from most l.lengths
      → IsLeft (judged l.graph level) l.from l.end (l.total - l.done);
  below : l.end < count l.graph;
}
