use Rattle.std.proofs.Common.{ℕ, ◌≡◌, ◌||◌, List, drop}
use Rattle.std.specs.List.{list_any}
use Rattle.tcc_rows.specs.Followed.{holds, puts}
use Rattle.tcc_rows.proofs.pending.note_writes.Given as goal

abbrev pub invariant-loop-op : goal.invariant-loop-op
invariant-loop-op l =
    (w : List ℕ × ℕ) → (list_any (puts w) (drop l.op-index l.op-items) || holds l.written w) ≡ (list_any (puts w) l.txn.ops || holds l.initial.written w)
