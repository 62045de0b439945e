use Rattle.std.proofs.Common.{◌≡◌, length}
use Rattle.tcc_reads.specs.History.{count}
use Rattle.tcc_check.specs.private.Judged.{AreNearRowsTo}
use Rattle.tcc_check.specs.private.Pairs.{AreOrderly}
use Rattle.tcc_check.proofs.near_rows.near_table.Given as goal

abbrev pub invariant-loop-start : goal.invariant-loop-start
invariant-loop-start l =
    record {
      rows : AreNearRowsTo l.graph l.level l.least l.near l.start l.rows;
      long : length l.rows.links.items ≡ l.start;
      orderly : AreOrderly (count l.graph) l.rows.links.items;
    }
