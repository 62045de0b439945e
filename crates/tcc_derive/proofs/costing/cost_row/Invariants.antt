use Rattle.std.proofs.Common.{◌≡◌, ◌<◌, ◌==◌, ℕ, length, get_or, if◌then◌else◌}
use Rattle.tcc_derive.proofs.costing.cost_row.Given as goal

abbrev pub invariant-loop-v : goal.invariant-loop-v
invariant-loop-v l =
    (length l.costs.items ≡ l.v)
    × ((w : ℕ) → w < l.v → get_or l.costs.items w 0 ≡ (if get_or l.steps w 0 == 1 then 1 else get_or l.prices w 0))
