use Rattle.std.proofs.Common.{◌≡◌, drop}
use Rattle.std.specs.Option.{option_or}
use Rattle.tcc_graph.specs.Operations.{last_write, last_write_from}
use Rattle.tcc_graph.proofs.operations.last_write_in.Given as goal

abbrev pub invariant-loop-index : goal.invariant-loop-index
invariant-loop-index l = option_or (last_write_from l.index l.key (drop l.index l.txn.ops)) l.last ≡ last_write l.key l.txn.ops
