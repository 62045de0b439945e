use Rattle.tcc_judge.proofs.ordering.first_broken.Goals as goal

pub returns-in-Atomic : goal.returns-in-Atomic
returns-in-Atomic g c = rw c.in-Atomic.is c.first_single.ensures
