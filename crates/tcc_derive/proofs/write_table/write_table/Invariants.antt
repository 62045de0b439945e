use Rattle.tcc_derive.specs.private.KeyTables.{HasWrites}
use Rattle.tcc_derive.proofs.write_table.write_table.Given as goal

abbrev pub invariant-loop-key_index : goal.invariant-loop-key_index
invariant-loop-key_index l = HasWrites l.graph l.key_index l.written.items
