use Rattle.std.proofs.Common.{◌≡◌, ◌<◌, ℕ, length, slice_index}
use Rattle.tcc_reads.specs.History.{owner}
use Rattle.tcc_clocks.proofs.latest.owners.Given as goal

abbrev pub invariant-loop-number : goal.invariant-loop-number
invariant-loop-number l =
    (length l.owners.items ≡ l.number)
    × (slice_index l.owners.items 0 ≡ 0)
    × ((n : ℕ) → 0 < n → n < l.number → slice_index l.owners.items n ≡ owner l.graph n)
