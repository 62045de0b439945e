use Rattle.std.proofs.Common.{◌≡◌, ◌<◌, ℕ, length, get_or}
use Rattle.tcc_near.specs.private.Breadth.{IsSessionEnd}
use Rattle.tcc_near.proofs.adjacency.session_ends.Given as goal

abbrev pub invariant-loop-from : goal.invariant-loop-from
invariant-loop-from l = (length l.ends.items ≡ l.from) × ((w d : ℕ) → w < l.from → IsSessionEnd l.graph w (get_or l.ends.items w d))
