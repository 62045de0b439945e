use Rattle.std.proofs.Common.{ℕ, ◌≡◌, ◌<◌, [], false, map, slice_index_or, bytes_eq, string_bytes}
use Rattle.tcc_slices.proofs.by_label.number_of.Given as goal

abbrev pub invariant-loop-number : goal.invariant-loop-number
invariant-loop-number l = (k : ℕ) → k < l.number → bytes_eq l.label (slice_index_or (map string_bytes l.later) k []) ≡ false
