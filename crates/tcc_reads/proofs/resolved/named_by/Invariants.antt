use Rattle.std.proofs.Common.{◌≡◌, take}
use Rattle.tcc_reads.specs.Indexed.{entries_of}
use Rattle.tcc_reads.proofs.resolved.named_by.Given as goal

abbrev pub invariant-loop-number : goal.invariant-loop-number
invariant-loop-number l = l.named.items ≡ entries_of l.keys (take l.number l.transactions)
