-- the text has the bytes so far
use Rattle.std.proofs.Common.{◌≡◌, take}
use Rattle.tcc_batch.specs.Junit.{escaped}
use Rattle.tcc_batch.proofs.junit.escaped.Given as goal

abbrev pub invariant-loop-byte : goal.invariant-loop-byte
invariant-loop-byte l = l.text.items ≡ escaped (take l.byte-index l.value)
