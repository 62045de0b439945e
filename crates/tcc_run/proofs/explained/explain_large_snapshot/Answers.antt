use Rattle.std.proofs.Common.{subst, sym}
use Rattle.tcc_run.specs.LargeRuns.{IsSaidWithLarge}
use Rattle.tcc_run.specs.declared.outcome.Outcome.{Outcome}
use Rattle.tcc_run.specs.private.Stages.{outcome_said}
use Rattle.tcc_run.proofs.explained.explain_large_snapshot.Goals as goal

pub returns : goal.returns
returns g c =
    let options = c.args.run.now.options.now in (
      outcome_said options c.into_outcome-outcome.result,
      subst (λ (o : Outcome). IsSaidWithLarge options c.args.snapshot.now (outcome_said options o)) (sym c.into_outcome-outcome.ensures)
          c.in_ok-decided.ensures.told.0,
      c.in_ok-text_of.ensures,
      c.status.ensures,
      c.faults_of.ensures options,
    )
