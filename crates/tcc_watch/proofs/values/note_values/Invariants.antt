use Rattle.std.proofs.Common.{take}
use Rattle.tcc_watch.specs.private.Values.{AreNoted}
use Rattle.tcc_watch.proofs.values.note_values.Given as goal

abbrev pub invariant-loop-op : goal.invariant-loop-op
invariant-loop-op l = AreNoted l.ops l.number (take l.op-index l.ops) l.initial.values l.values
