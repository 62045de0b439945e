use Rattle.tcc_book.proofs.Prefixes.{GoOn}
use Rattle.tcc_book.proofs.nesting.nested.Given as goal

abbrev pub invariant-loop-i : goal.invariant-loop-i
invariant-loop-i l = GoOn l.earlier l.later l.i
