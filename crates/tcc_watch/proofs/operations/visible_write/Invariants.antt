use Rattle.std.proofs.Common.{◌≡◌, take}
use Rattle.tcc_reads.specs.Sources.{visible_write}
use Rattle.tcc_watch.proofs.operations.visible_write.Given as goal

abbrev pub invariant-loop-op : goal.invariant-loop-op
invariant-loop-op l = l.visible ≡ visible_write l.key (take l.op-index l.ops)
