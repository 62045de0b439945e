-- the faults so far have notes; where the call says so, all of these were written whole
use Rattle.std.proofs.Common.{◌≡◌, true, map, take}
use Rattle.tcc_print.specs.Notes.{AddsAll, AddsEach, read_note}
use Rattle.tcc_print.proofs.notes.note_reads.Given as goal

abbrev pub invariant-loop-fault : goal.invariant-loop-fault
invariant-loop-fault g l =
    AddsEach (g.N.Write.contents l.initial.notes) (g.N.Write.contents l.notes) (map (read_note l.snapshot) (take l.fault-index l.first))
    × (l.whole ≡ true → AddsAll (g.N.Write.contents l.initial.notes) (g.N.Write.contents l.notes) (map (read_note l.snapshot) (take l.fault-index l.first)))
