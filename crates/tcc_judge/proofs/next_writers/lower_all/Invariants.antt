use Rattle.std.proofs.Common.{take}
use Rattle.tcc_judge.specs.private.NextWriters.{AreLowered}
use Rattle.tcc_judge.proofs.next_writers.lower_all.Given as goal

abbrev pub invariant-loop-key_index : goal.invariant-loop-key_index
invariant-loop-key_index l = AreLowered (take l.key_index-index l.key_indices) l.session l.number l.initial.next l.next
