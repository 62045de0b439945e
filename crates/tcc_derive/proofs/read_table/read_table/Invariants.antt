use Rattle.std.proofs.Common.{◌≡◌, ◌<◌, ℕ, List, length, get_or}
use Rattle.tcc_derive.specs.private.KeyTables.{AreReadsAt}
use Rattle.tcc_derive.specs.declared.read.Read.{Read}
use Rattle.tcc_derive.proofs.read_table.read_table.Given as goal

abbrev pub invariant-loop-key_index : goal.invariant-loop-key_index
invariant-loop-key_index l =
    (length l.reads.items ≡ l.key_index)
    × ((k : ℕ) (d : List Read) → k < l.key_index → AreReadsAt l.graph k (get_or l.reads.items k d))
