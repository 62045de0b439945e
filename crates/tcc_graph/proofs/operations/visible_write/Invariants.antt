use Rattle.std.proofs.Common.{◌≡◌, drop}
use Rattle.std.specs.Option.{option_or}
use Rattle.tcc_reads.specs.Sources.{visible_write}
use Rattle.tcc_graph.proofs.operations.visible_write.Given as goal

abbrev pub invariant-loop-index : goal.invariant-loop-index
invariant-loop-index l = option_or (visible_write l.key (drop l.index l.txn.ops)) l.visible ≡ visible_write l.key l.txn.ops
