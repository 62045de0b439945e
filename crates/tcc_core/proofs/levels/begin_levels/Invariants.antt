use Rattle.std.proofs.Common.{◌≡◌, length}
use Rattle.std.specs.Prelude.{All}
use Rattle.tcc_core.specs.private.Levels.{HasRoom}
use Rattle.tcc_core.proofs.levels.begin_levels.Given as goal

abbrev pub invariant-loop-level : goal.invariant-loop-level
invariant-loop-level l = record {
  long : length l.levels.items ≡ l._level;
  room : All (HasRoom l.count) l.levels.items;
  none : All (λ level. level.cost ≡ 0) l.levels.items;
}
