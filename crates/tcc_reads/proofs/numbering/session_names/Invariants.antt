use Rattle.std.proofs.Common.{◌≡◌, ◌++◌, drop, map}
use Rattle.std.specs.FinMap.{entries}
use Rattle.tcc_reads.proofs.numbering.session_names.Given as goal

abbrev pub invariant-loop-session : goal.invariant-loop-session
invariant-loop-session g l = l.names.items ++ map (λ named. named.0) (drop l.session (entries l.snapshot)) ≡ map (λ named. named.0) (entries l.snapshot)
