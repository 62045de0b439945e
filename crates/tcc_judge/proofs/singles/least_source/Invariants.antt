use Rattle.tcc_judge.specs.private.Least.{IsLeastOf}
use Rattle.tcc_judge.proofs.SingleLemmas.{IsSourceIn}
use Rattle.tcc_judge.proofs.singles.least_source.Given as goal

abbrev pub invariant-loop-read : goal.invariant-loop-read
invariant-loop-read l = IsLeastOf (IsSourceIn l.positions l.writers l.position l.read-items l.read-index) l.least
