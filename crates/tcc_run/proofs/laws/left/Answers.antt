use Rattle.tcc_run.proofs.Closes as run
use Rattle.tcc_run.proofs.Closing.{of_all}
use Rattle.tcc_run.proofs.laws.left.Goals as goal

pub returns : goal.returns
returns c =
    λ options records text before after code is some fine. run.left options records text
    (of_all c.finished_is_snapshot.ensures.limits records) before after code is some fine
