use Rattle.std.proofs.Common.{subst}
use Rattle.std.proofs.lemmas.Result.{IfOk-weaker}
use Rattle.tcc_watch.specs.Verdicts.{IsVerdict}
use Rattle.tcc_watch.specs.declared.verdict.WatchVerdict.{WatchVerdict}
use Rattle.tcc_watch_run.proofs.Quietly.{anomaly_quietly, consistent_quietly, unresolved_quietly}
use Rattle.tcc_watch_run.proofs.told.SnapshotAnswer.quietly.Goals as goal

pub returns-in-Consistent-clause-told : goal.returns-in-Consistent-clause-told
returns-in-Consistent-clause-told g c checkpoints knows =
    IfOk-weaker c.consistent.result _ _
    (λ told is. consistent_quietly c.args.run.now.options.now checkpoints c.args.snapshot.now told c.args.was_told
    (subst (λ (v : WatchVerdict). IsVerdict c.args.snapshot.now c.args.run.now.options.now.level v) c.in-Consistent.is c.requires.verdict) is.0 is.1 knows)
    c.consistent.ensures

pub returns-in-Anomaly-clause-told : goal.returns-in-Anomaly-clause-told
returns-in-Anomaly-clause-told g c checkpoints knows =
    IfOk-weaker c.explained.result _ _
    (λ told is. anomaly_quietly c.args.run.now.options.now checkpoints c.args.snapshot.now told
    (subst (λ (v : WatchVerdict). IsVerdict c.args.snapshot.now c.args.run.now.options.now.level v) c.in-Anomaly.is c.requires.verdict) is.0 is.1)
    c.explained.ensures

pub returns-in-Unresolved-clause-told : goal.returns-in-Unresolved-clause-told
returns-in-Unresolved-clause-told g c checkpoints knows =
    IfOk-weaker c.explained-in-Unresolved.result _ _
    (λ told is. unresolved_quietly c.args.run.now.options.now checkpoints c.args.snapshot.now told c.args.was_told
    (subst (λ (v : WatchVerdict). IsVerdict c.args.snapshot.now c.args.run.now.options.now.level v) c.in-Unresolved.is c.requires.verdict) is.0 is.1 knows)
    c.explained-in-Unresolved.ensures

pub returns-in-Consistent-clause-faults : goal.returns-in-Consistent-clause-faults
returns-in-Consistent-clause-faults g c = IfOk-weaker c.consistent.result _ _ (λ told is. is.2) c.consistent.ensures

pub returns-in-Anomaly-clause-faults : goal.returns-in-Anomaly-clause-faults
returns-in-Anomaly-clause-faults g c = IfOk-weaker c.explained.result _ _ (λ told is. is.2) c.explained.ensures

pub returns-in-Unresolved-clause-faults : goal.returns-in-Unresolved-clause-faults
returns-in-Unresolved-clause-faults g c = IfOk-weaker c.explained-in-Unresolved.result _ _ (λ told is. is.2) c.explained-in-Unresolved.ensures
