-- the bytes so far, after a quote
use Rattle.std.proofs.Common.{◌≡◌, ◌++◌, take, flat_map}
use Rattle.tcc_print.specs.RowNotes.{byte_shown}
use Rattle.tcc_print.proofs.notes.quoted.push_quoted.Given as goal

abbrev pub invariant-loop-byte : goal.invariant-loop-byte
invariant-loop-byte l = l.text.items ≡ l.initial.text.items ++ flat_map byte_shown (take l.byte-index (take 48 l.bytes))
