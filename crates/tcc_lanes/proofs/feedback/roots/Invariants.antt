use Rattle.std.proofs.Common.{◌<◌}
use Rattle.std.specs.List.{All}
use Rattle.tcc_lanes.proofs.feedback.roots.Given as goal

abbrev pub invariant-loop-above : goal.invariant-loop-above
invariant-loop-above l = All (λ v. v < l.count) l.path.items
