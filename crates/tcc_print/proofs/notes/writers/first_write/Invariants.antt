-- no session so far writes it
use Rattle.std.proofs.Common.{◌≡◌, None, take}
use Rattle.std.specs.FinMap.{entries}
use Rattle.tcc_reads.specs.Faults.{writer}
use Rattle.tcc_reads.specs.Sites.{stands_from}
use Rattle.tcc_print.proofs.notes.writers.first_write.Given as goal

abbrev pub invariant-loop-session : goal.invariant-loop-session
invariant-loop-session g l = writer (stands_from 0 (take l.session (entries l.snapshot))) l.key l.value ≡ None
