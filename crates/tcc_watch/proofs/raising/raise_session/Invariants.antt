use Rattle.tcc_watch.specs.private.Rows.{IsRaisedBetween}
use Rattle.tcc_watch.proofs.raising.raise_session.Given as goal

abbrev pub invariant-loop-index : goal.invariant-loop-index
invariant-loop-index l = IsRaisedBetween l.row l.initial.rows l.rows l.numbers l.initial.index l.index
