use Rattle.std.proofs.Common.{◌≡◌, take}
use Rattle.tcc_reads.specs.Indexed.{named}
use Rattle.tcc_graph.proofs.named.reads_by_name.Given as goal

abbrev pub invariant-loop-key_index : goal.invariant-loop-key_index
invariant-loop-key_index l = l.names.items ≡ named l.keys (take l.key_index-index l.reads)
