-- the head, and the lines of the faults so far
use Rattle.std.proofs.Common.{◌≡◌, ◌++◌, take, flat_map}
use Rattle.tcc_print.specs.Texts.{read_fault_text}
use Rattle.tcc_print.proofs.texts.unresolved.Given as goal

abbrev pub invariant-loop-fault : goal.invariant-loop-fault
invariant-loop-fault l = l.text.items ≡ l.initial.text.items ++ flat_map read_fault_text (take l.fault-index l.faults)
