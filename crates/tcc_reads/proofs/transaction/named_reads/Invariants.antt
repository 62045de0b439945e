use Rattle.std.proofs.Common.{◌≡◌, take}
use Rattle.tcc_reads.specs.Indexed.{named}
use Rattle.tcc_reads.proofs.transaction.named_reads.Given as goal

abbrev pub invariant-loop-index : goal.invariant-loop-index
invariant-loop-index l = l.names.items ≡ named l.keys (take l.index-index l.reads)
