use Rattle.tcc_near.specs.private.Backwards.{AreKnown, AreHeads}
use Rattle.tcc_near.proofs.topological.rows_of_sessions.Given as goal

abbrev pub invariant-loop : goal.invariant-loop
invariant-loop l = AreKnown l.pairs.history l.rows.items × AreHeads l.pairs.history l.heads.items l.runs.items
