-- A history, and the level at which it is judged.
use Rattle.std.specs.Prelude.{ℕ, ◌≡◌, List, length}
use Rattle.tcc_reads.specs.History.{History}
use Rattle.tcc_graph.specs.Walks.{IsWalk}
use Rattle.tcc_graph.specs.declared.step.Step.{Step}
use Rattle.tcc_graph.specs.declared.level.Level.{Level}
use Rattle.tcc_graph.specs.declared.level.Level.TheVariants as level

-- what links, routes, cycles and commit orders depend on; pairs, walks and clocks depend on the history alone
pub record Judged : Type 0 where
  pub history : History
  pub level : Level

-- a history at a level
abbrev pub judged : History → Level → Judged
judged h level = record { history = h; level = level }

-- what a level allows the walk of a reason to be: at `Causal` any, at `Atomic` a single pair
abbrev pub IsAllowed : Level → List Step → Type 0
IsAllowed level.Causal walk = Unit {0}
IsAllowed level.Atomic walk = length walk ≡ 1

-- a walk from a to b that the level allows
abbrev pub IsAllowedWalk : Judged → ℕ → ℕ → List Step → Type 0
IsAllowedWalk j a b walk = IsWalk j.history a b walk × IsAllowed j.level walk

-- a history at each level
abbrev pub causally : History → Judged
causally h = judged h level.Causal

abbrev pub atomically : History → Judged
atomically h = judged h level.Atomic
