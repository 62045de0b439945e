use Rattle.tcc_watch.specs.private.Rows.{AreRaisedBelow}
use Rattle.tcc_watch.proofs.raising.raise.Given as goal

abbrev pub invariant-loop-numbers : goal.invariant-loop-numbers
invariant-loop-numbers g l = AreRaisedBelow g.h l.initial.rows l.rows l.b l.a l.numbers-index
