use Rattle.std.specs.FinMap.{entries}
use Rattle.std.proofs.Common.{All}
use Rattle.tcc_explain.specs.Keys.{NamesKeys}
use Rattle.tcc_run.proofs.SoFar.{AllBefore}
use Rattle.tcc_run.proofs.naming.names.Given as goal

-- the keys of the sessions so far are names
abbrev pub invariant-loop-i : goal.invariant-loop-i
invariant-loop-i l = AllBefore (λ named. All NamesKeys named.1) (entries l.snapshot) l.i
