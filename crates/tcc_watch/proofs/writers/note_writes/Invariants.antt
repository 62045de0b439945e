use Rattle.std.proofs.Common.{take}
use Rattle.tcc_watch.specs.private.Writers.{AreNoted}
use Rattle.tcc_watch.proofs.writers.note_writes.Given as goal

abbrev pub invariant-loop-key : goal.invariant-loop-key
invariant-loop-key g l = AreNoted g.h l.writers l.number (take l.key-index l.keys)
