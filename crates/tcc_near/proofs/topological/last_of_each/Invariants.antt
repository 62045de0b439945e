use Rattle.std.proofs.Common.{◌≡◌, ◌<◌, ◌+◌, length, slice_index}
use Rattle.std.specs.Prelude.{All}
use Rattle.tcc_near.proofs.topological.last_of_each.Given as goal

abbrev pub invariant-loop-number : goal.invariant-loop-number
invariant-loop-number l = All (λ b. (b < length l.ends) × (slice_index l.ends b ≡ b + 1)) l.heads.items
