use Rattle.std.proofs.Common.{ℕ, List}
use Rattle.tcc_check.specs.private.Coming.{AreFoundBefore}
use Rattle.tcc_check.specs.private.Judged.{AreLinksOf}
use Rattle.tcc_check.proofs.far_rows.far_table.Given as goal

abbrev pub invariant-loop-start : goal.invariant-loop-start
invariant-loop-start l =
    (table : List (List ℕ)) → AreLinksOf l.graph l.least table l.near → AreFoundBefore l.graph l.version l.least table l.far l.start l.faults
