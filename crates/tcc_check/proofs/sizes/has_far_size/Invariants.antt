use Rattle.std.proofs.Common.{◌≡◌, ◌<◌, ◌-◌, ℕ, length}
use Rattle.tcc_cert.specs.Tables.{lowest, row_of}
use Rattle.tcc_check.proofs.sizes.has_far_size.Given as goal

abbrev pub invariant-loop-start : goal.invariant-loop-start
invariant-loop-start l = (s : ℕ) → s < l.start → length (row_of l.table s) ≡ l.count - lowest l.version s
