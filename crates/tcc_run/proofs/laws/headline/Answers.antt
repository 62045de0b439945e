use Rattle.tcc_run.proofs.Closing.{of_all}
use Rattle.tcc_run.proofs.HeadlineRuns as run
use Rattle.tcc_run.proofs.laws.headline.Goals as goal

pub returns-clause-each : goal.returns-clause-each
returns-clause-each c = run.says c.explained.ensures

pub returns-clause-last : goal.returns-clause-last
returns-clause-last c =
    λ options records before after file file' code unfaulted resolved is fine space. run.prints c.explained.ensures options records
    (of_all c.finished_is_snapshot.ensures.limits records) unfaulted resolved before after file file' code fine space is
