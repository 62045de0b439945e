use Rattle.tcc_run.proofs.Closing as closing
use Rattle.tcc_run.proofs.laws.accepted.Goals as goal

pub returns-clause-accepted : goal.returns-clause-accepted
returns-clause-accepted c =
    λ records level a unfaulted resolved is. closing.accepted records
    (closing.of_all c.finished_is_snapshot.ensures.limits records) level a unfaulted resolved is

pub returns-clause-only : goal.returns-clause-only
returns-clause-only c =
    λ records level a unfaulted resolved is o may. closing.only records
    (closing.of_all c.finished_is_snapshot.ensures.limits records) level a unfaulted resolved is o may
