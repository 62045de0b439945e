use Rattle.std.proofs.Common.{All, ◌≡◌, ◌≤◌, ◌+◌, ◌++◌, drop, length, sum_by}
use Rattle.std.specs.FinMap.{entries}
use Rattle.tcc_txn.specs.declared.limits.TheConstants.{LARGE_COUNT}
use Rattle.tcc_reads.specs.Sites.{stands_from, stands}
use Rattle.tcc_reads.specs.private.Numbers.{IsPlace, numbered, numbered_from}
use Rattle.tcc_reads.proofs.numbering.places.Given as goal

abbrev pub invariant-loop-session : goal.invariant-loop-session
invariant-loop-session g l = record {
  list : numbered l.snapshot l.list.items ++ numbered_from l.number (stands_from l.session (drop l.session (entries l.snapshot))) ≡ numbered_from 1 (stands l.snapshot);
  few : l.number + sum_by (λ named. length named.1) (drop l.session (entries l.snapshot)) ≤ LARGE_COUNT;
  places : All (IsPlace l.snapshot) l.list.items;
}
