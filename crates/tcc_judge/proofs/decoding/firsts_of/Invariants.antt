use Rattle.tcc_judge.proofs.Told.{AreFirstsTo}
use Rattle.tcc_judge.proofs.decoding.firsts_of.Given as goal

abbrev pub invariant-loop-session : goal.invariant-loop-session
invariant-loop-session l = AreFirstsTo l.graph l.session l.firsts.items l.first
