use Rattle.std.proofs.Common.{drop}
use Rattle.std.specs.List.{list_any}
use Rattle.tcc_rows.specs.Settling.{is_read_by}
use Rattle.tcc_rows.specs.private.Unread.{LeavesRest}
use Rattle.tcc_txn.specs.Snapshots.{finished_at}
use Rattle.tcc_rows.proofs.pending.strike_session.Given as goal

abbrev pub invariant-loop-index : goal.invariant-loop-index
invariant-loop-index g l =
    LeavesRest (λ w. list_any (is_read_by w) (finished_at l.snapshot l.i)) (λ w. list_any (is_read_by w) (drop l.index (finished_at l.snapshot l.i)))
    l.initial.values l.values
