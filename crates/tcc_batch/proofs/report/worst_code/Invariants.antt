-- it is the greatest so far
use Rattle.std.proofs.Common.{◌≡◌, map, take}
use Rattle.tcc_batch.specs.Reports.{worst_code}
use Rattle.tcc_batch.proofs.report.worst_code.Given as goal

abbrev pub invariant-loop-history : goal.invariant-loop-history
invariant-loop-history g l = l.worst ≡ worst_code (map (λ history. history.report) (take l.history-index l.histories))
