use Rattle.std.proofs.Common.{◌≡◌, ◌<◌, ◌⊎◌, ℕ, get_or}
use Rattle.tcc_near.specs.declared.walk_lengths.TheConstants.{NONE}
use Rattle.tcc_derive.proofs.level_sweep.levels_of.Given as goal

abbrev pub invariant-loop-count : goal.invariant-loop-count
invariant-loop-count l = (k : ℕ) (d : ℕ) → k < l.count-index → (get_or l.steps k d < l.levels) ⊎ (get_or l.steps k d ≡ NONE)
