use Rattle.std.proofs.Common.{All, ◌≡◌, ◌≤◌, ◌+◌, ◌++◌, List, drop}
use Rattle.tcc_txn.specs.Snapshots.{finished_at}
use Rattle.tcc_reads.specs.Sites.{Stand, stands_in}
use Rattle.tcc_reads.specs.private.Numbers.{IsPlace, name_in, numbered, numbered_from}
use Rattle.tcc_reads.proofs.numbering.push_session.Given as goal

abbrev pub invariant-loop-before : goal.invariant-loop-before
invariant-loop-before g l = record {
  list : (rest : List Stand)
      → numbered l.snapshot l.list.items ++ numbered_from l.number (stands_in l.session (name_in l.snapshot l.session) (l.before + 1) (drop l.before (finished_at l.snapshot l.session)) ++ rest)
      ≡ numbered l.snapshot l.initial.list.items ++ numbered_from l.first (stands_in l.session (name_in l.snapshot l.session) 1 (finished_at l.snapshot l.session) ++ rest);
  few : l.number ≤ l.first + l.before;
  places : All (IsPlace l.snapshot) l.initial.list.items → All (IsPlace l.snapshot) l.list.items;
}
