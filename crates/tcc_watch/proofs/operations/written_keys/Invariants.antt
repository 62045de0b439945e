use Rattle.std.proofs.Common.{take}
use Rattle.tcc_watch.specs.private.Operations.{AreKeys}
use Rattle.tcc_watch.proofs.operations.written_keys.Given as goal

abbrev pub invariant-loop-op : goal.invariant-loop-op
invariant-loop-op l = AreKeys (take l.op-index l.ops) l.keys.items
