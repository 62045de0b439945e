use Rattle.tcc_run.proofs.Closes as run
use Rattle.tcc_run.proofs.Closing.{of_all}
use Rattle.tcc_run.proofs.laws.closes.Goals as goal

pub returns : goal.returns
returns c =
    λ options records text said last ends end has. run.closes options records text (of_all c.finished_is_snapshot.ensures.limits records) said last end has ends
