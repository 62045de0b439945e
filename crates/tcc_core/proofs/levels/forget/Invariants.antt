use Rattle.std.proofs.Common.{◌≡◌, ℕ, length}
use Rattle.std.specs.Prelude.{All}
use Rattle.std.specs.List.{AllWithin}
use Rattle.tcc_core.specs.private.Levels.{HasRoom}
use Rattle.tcc_core.proofs.levels.forget.Given as goal

abbrev pub invariant-loop-k : goal.invariant-loop-k
invariant-loop-k l = record {
  same : length l.levels ≡ length l.initial.levels;
  room : (n : ℕ) → All (HasRoom n) l.initial.levels → All (HasRoom n) l.levels;
  none : AllWithin (λ level. level.cost ≡ 0) l.levels 0 l.k;
}
