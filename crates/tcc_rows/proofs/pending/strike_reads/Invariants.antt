use Rattle.std.proofs.Common.{drop}
use Rattle.std.specs.List.{list_any}
use Rattle.tcc_rows.specs.Settling.{gets}
use Rattle.tcc_rows.specs.private.Unread.{LeavesRest}
use Rattle.tcc_rows.proofs.pending.strike_reads.Given as goal

abbrev pub invariant-loop-op : goal.invariant-loop-op
invariant-loop-op l = LeavesRest (λ w. list_any (gets w) l.ops) (λ w. list_any (gets w) (drop l.op-index l.ops)) l.initial.values l.values
