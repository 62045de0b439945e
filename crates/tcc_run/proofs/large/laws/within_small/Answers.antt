use Rattle.tcc_run.proofs.WithinSmall.{ended_alike, run_large, run_small, said_alike, whole_alike, whole_small}
use Rattle.tcc_run.proofs.large.laws.within_small.Goals as goal

pub returns-clause-snapshot : goal.returns-clause-snapshot
returns-clause-snapshot c = said_alike

pub returns-clause-whole : goal.returns-clause-whole
returns-clause-whole c = whole_alike c.finished_is_snapshot.ensures.limits

pub returns-clause-alike : goal.returns-clause-alike
returns-clause-alike c = λ options others records keeps said again alike is too.
    c.one_run.ensures.whole options others records said again alike (whole_small c.finished_is_snapshot.ensures.limits options records keeps said is) too

pub returns-clause-ended : goal.returns-clause-ended
returns-clause-ended c = ended_alike c.finished_is_snapshot.ensures.limits

pub returns-clause-without_large : goal.returns-clause-without_large
returns-clause-without_large c = run_small c.finished_is_snapshot.ensures.limits

pub returns-clause-with_large : goal.returns-clause-with_large
returns-clause-with_large c = run_large c.finished_is_snapshot.ensures.limits
