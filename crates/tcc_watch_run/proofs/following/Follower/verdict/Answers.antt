use Rattle.std.proofs.Common.{subst}
use Rattle.std.specs.Prelude.{IfOk}
use Rattle.tcc_txn.specs.Snapshots.{Sessions}
use Rattle.tcc_watch.specs.Verdicts.{IsVerdict}
use Rattle.tcc_watch_run.proofs.following.Follower.verdict.Goals as goal

pub returns-clause-verdict : goal.returns-clause-verdict
returns-clause-verdict c =
    subst (λ (s : Sessions). IfOk c.answer.result (IsVerdict s c.args.level)) c.in_ok-catch_up.ensures.1 c.answer.ensures
