-- `write_out` ends, since each turn sends some bytes. What it has sent is in the writer.
use Rattle.std.proofs.Common.{length, ◌-◌, ◌≤◌, take}
use Rattle.std.specs.Io.KnownBytes.{Appends}
use Rattle.tcc_base.proofs.sending.write_out.Given as goal

abbrev pub invariant-loop-sent : goal.invariant-loop-sent
invariant-loop-sent g l =
    (l.sent ≤ length l.text) × Appends (g.W.Write.contents l.initial.out) (g.W.Write.contents l.out) (take l.sent l.text)

abbrev pub decreases-loop-sent : goal.decreases-loop-sent
decreases-loop-sent g l = length l.text - l.sent
