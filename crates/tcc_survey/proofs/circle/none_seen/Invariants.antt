use Rattle.std.proofs.Common.{◌≡◌, ◌≤◌, false, replicate}
use Rattle.tcc_survey.proofs.circle.none_seen.Given as goal

abbrev pub invariant-loop : goal.invariant-loop
invariant-loop l = (l.counter ≤ l.count) × (l.seen.items ≡ replicate l.counter false)
