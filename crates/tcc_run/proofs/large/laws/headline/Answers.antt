-- By the laws of the two judges, and that a text that was written is read as it.
use Rattle.tcc_run.proofs.LargeCloses as run
use Rattle.tcc_run.proofs.large.laws.headline.Goals as goal

pub returns-clause-last : goal.returns-clause-last
returns-clause-last c = λ options records before after files files' code unfaulted resolved is fine space.
    run.prints c.checks.ensures options records unfaulted resolved before after files files' code fine space is

pub returns-clause-left : goal.returns-clause-left
returns-clause-left c = λ options records text before after slice slice' code is some fine.
    run.left c.checks.ensures options records text before after slice slice' code is some fine
