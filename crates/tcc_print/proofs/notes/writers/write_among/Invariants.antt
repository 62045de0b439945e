-- no transaction so far writes it
use Rattle.std.proofs.Common.{◌≡◌, ℕ, List, Some, None, take}
use Rattle.std.specs.Prelude.{slice_get}
use Rattle.std.specs.FinMap.{entries}
use Rattle.tcc_txn.specs.Transactions.{Transaction}
use Rattle.tcc_reads.specs.Faults.{writer}
use Rattle.tcc_reads.specs.Sites.{stands_in}
use Rattle.tcc_print.proofs.notes.writers.write_among.Given as goal

abbrev pub invariant-loop-place : goal.invariant-loop-place
invariant-loop-place g l =
    (part : List ℕ × List Transaction) → slice_get (entries l.snapshot) l.session ≡ Some part
    → writer (take l.place (stands_in l.session part.0 1 part.1)) l.key l.value ≡ None
