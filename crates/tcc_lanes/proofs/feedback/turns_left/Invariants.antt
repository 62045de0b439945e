use Rattle.std.proofs.Common.{◌≡◌, ◌<◌, length}
use Rattle.std.specs.List.{All}
use Rattle.tcc_lanes.proofs.feedback.turns_left.Given as goal

abbrev pub invariant-loop-turn : goal.invariant-loop-turn
invariant-loop-turn l = record {
  left : length l.left.items ≡ length l.rows;
  seen : length l.seen.items ≡ length l.rows;
  inside : All (λ v. v < length l.rows) l.path.items;
}
