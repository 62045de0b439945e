use Rattle.tcc_bound.proofs.Keeping.{ends}
use Rattle.tcc_bound.proofs.bound.Bound.close.Goals as goal

pub returns-clause-least : goal.returns-clause-least
returns-clause-least c = rw (← c.seat.view_is) (ends _ _ _ _ _ c.seat.invariant c.close_with-closed.ensures.values.2 c.word-word.ensures).0

pub returns-clause-floor : goal.returns-clause-floor
returns-clause-floor c = rw (← c.seat.view_is) (ends _ _ _ _ _ c.seat.invariant c.close_with-closed.ensures.values.2 c.word-word.ensures).1
