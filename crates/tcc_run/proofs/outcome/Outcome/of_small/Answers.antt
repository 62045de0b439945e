use Rattle.std.proofs.Common.{refl}
use Rattle.tcc_run.proofs.outcome.Outcome.of_small.Goals as goal

pub returns : goal.returns
returns c = λ is. rw c.in_ok-held.ensures (c.in_ok-answer.answer, refl, c.in_ok-answer.ensures is)
