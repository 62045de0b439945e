use Rattle.std.proofs.Common.{take}
use Rattle.std.specs.List.{Contains}
use Rattle.tcc_derive.specs.private.Buckets.{Puts}
use Rattle.tcc_derive.proofs.write_table.add_key.Given as goal

abbrev pub invariant-loop-writer : goal.invariant-loop-writer
invariant-loop-writer l = Puts l.initial.written l.written (Contains (take l.writer-index l.writers)) l.key_index
