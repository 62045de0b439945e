use Rattle.std.proofs.Common.{drop}
use Rattle.std.specs.FinMap.{entries}
use Rattle.std.specs.List.{list_any}
use Rattle.tcc_rows.specs.Settling.{is_read, is_read_in}
use Rattle.tcc_rows.specs.private.Unread.{LeavesRest}
use Rattle.tcc_rows.proofs.pending.strike_all.Given as goal

abbrev pub invariant-loop-i : goal.invariant-loop-i
invariant-loop-i g l = LeavesRest (is_read l.snapshot) (λ w. list_any (is_read_in w) (drop l.i (entries l.snapshot))) l.initial.values l.values
