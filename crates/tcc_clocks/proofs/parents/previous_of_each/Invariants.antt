use Rattle.std.proofs.Common.{◌≡◌, ◌<◌, ℕ, length, slice_index}
use Rattle.tcc_clocks.specs.Parents.{previous}
use Rattle.tcc_clocks.proofs.parents.previous_of_each.Given as goal

abbrev pub invariant-loop-c : goal.invariant-loop-c
invariant-loop-c l =
    (length l.parents.items ≡ l.c)
    × (slice_index l.parents.items 0 ≡ 0)
    × ((x : ℕ) → 0 < x → x < l.c → slice_index l.parents.items x ≡ previous l.graph x)
