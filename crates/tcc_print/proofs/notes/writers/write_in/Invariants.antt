-- no operation so far writes it
use Rattle.std.proofs.Common.{◌≡◌, None, find, take}
use Rattle.tcc_reads.specs.Faults.{puts}
use Rattle.tcc_print.proofs.notes.writers.write_in.Given as goal

abbrev pub invariant-loop-index : goal.invariant-loop-index
invariant-loop-index l = find (puts l.fn.key l.fn.value) (take l.index l.txn.ops) ≡ None
