use Rattle.std.proofs.Common.{inl, inr}
use Rattle.tcc_run.proofs.running.conclude.Goals as goal

pub returns-in-Ok : goal.returns-in-Ok
returns-in-Ok g c = λ is. let done = c.in-Ok.ensures is in inl (done.0, done.1, done.2, cc)

pub returns-in-Err : goal.returns-in-Err
returns-in-Err g c = λ is. inr (c.in-Err.ensures is)
