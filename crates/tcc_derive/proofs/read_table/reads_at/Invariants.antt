use Rattle.std.proofs.Common.{◌≡◌, ◌<◌, ℕ, length, get_or}
use Rattle.tcc_derive.specs.declared.read.Read.{Read}
use Rattle.tcc_derive.proofs.read_table.reads_at.Given as goal

abbrev pub invariant-loop-number : goal.invariant-loop-number
invariant-loop-number l =
    (length l.reads.items ≡ l.number)
    × ((i : ℕ) (d : Read) → i < l.number → get_or l.reads.items i d ≡ record { source = get_or l.sources i 0; reader = get_or l.readers i 0 })
