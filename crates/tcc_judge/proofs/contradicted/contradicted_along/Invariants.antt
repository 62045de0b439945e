use Rattle.std.proofs.Common.{◌≡◌, ◌*◌, length}
use Rattle.tcc_graph.specs.Keys.{keys}
use Rattle.tcc_clocks.specs.declared.latest.TheConstants.{WIDE}
use Rattle.tcc_judge.specs.private.Blocks.{IsReady}
use Rattle.tcc_judge.specs.private.Contradicted.{AreContradictedTo}
use Rattle.tcc_judge.specs.private.Sources.{AreSourcesTo}
use Rattle.tcc_judge.proofs.contradicted.contradicted_along.Given as goal

abbrev pub invariant-loop-number : goal.invariant-loop-number
invariant-loop-number g l = record {
  ready : IsReady l.graph l.order l.block;
  so_far : AreContradictedTo l.graph l.order l.positions (l.number * WIDE) l.lasts.items l.stale.items;
  keys : length l.gaps ≡ length (keys l.graph);
  sources : AreSourcesTo l.graph l.order (l.number * WIDE) l.sources.items;
}
