-- the runs so far come before those that are still to come
use Rattle.std.proofs.Common.{◌≡◌, ◌++◌, drop}
use Rattle.tcc_cert.specs.RunsTold.{runs_told}
use Rattle.tcc_cert.proofs.RunFacts.{behind_last}
use Rattle.tcc_cert.proofs.runs.runs_of.Given as goal

abbrev pub invariant-loop-number : goal.invariant-loop-number
invariant-loop-number l =
    runs_told l.graph l.order ≡ l.done.items ++ behind_last l.last (runs_told l.graph (drop l.number-index l.order))
