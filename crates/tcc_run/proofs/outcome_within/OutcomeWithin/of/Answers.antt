use Rattle.std.proofs.Common.{ℕ, ◌≤◌, subst}
use Rattle.tcc_txn.specs.Limits.{most_sessions}
use Rattle.tcc_run.proofs.Runs.{told}
use Rattle.tcc_run.proofs.outcome_within.OutcomeWithin.of.Goals as goal

pub returns-clause-told : goal.returns-clause-told
returns-clause-told g c =
    let few = subst (λ (n : ℕ). n ≤ most_sessions g.B.Bounds.limits) c.sessions-sessions.ensures.value c.sessions-sessions.ensures.few in
    told g.B.Bounds.limits c.args.run.now.options.now c.args.snapshot.now c.in_ok-outcome.outcome (few, c.sessions-sessions.ensures.few_transactions)
    c.in_ok-outcome.ensures.outcome
