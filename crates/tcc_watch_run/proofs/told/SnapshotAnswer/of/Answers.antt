use Rattle.std.proofs.Common.{Bool, subst}
use Rattle.std.proofs.lemmas.Result.{IfOk-weaker}
use Rattle.tcc_watch.specs.Verdicts.{IsVerdict}
use Rattle.tcc_watch.specs.declared.verdict.WatchVerdict.{WatchVerdict}
use Rattle.tcc_watch_run.specs.private.Stages.{Knows}
use Rattle.tcc_watch_run.proofs.Watched.{anomaly_told, consistent_told, still_told, unresolved_told}
use Rattle.tcc_watch_run.proofs.told.SnapshotAnswer.of.Goals as goal

pub returns-in-Consistent-clause-told : goal.returns-in-Consistent-clause-told
returns-in-Consistent-clause-told g c checkpoints knows =
    IfOk-weaker c.consistent.result _ _
    (λ told is. consistent_told c.args.run.now.options.now checkpoints c.args.snapshot.now told c.args.has_told
    (subst (λ (v : WatchVerdict). IsVerdict c.args.snapshot.now c.args.run.now.options.now.level v) c.in-Consistent.is c.requires.verdict) is.0 is.1 knows)
    c.consistent.ensures

pub returns-then-has_told-clause-told : goal.returns-then-has_told-clause-told
returns-then-has_told-clause-told g c checkpoints knows =
    IfOk-weaker c.still.result _ _
    (λ told is. still_told c.args.run.now.options.now checkpoints c.args.snapshot.now told
    (subst (λ (v : WatchVerdict). IsVerdict c.args.snapshot.now c.args.run.now.options.now.level v) c.in-Anomaly.is c.requires.verdict) is.0 is.1
    (subst (λ (b : Bool). Knows c.args.run.now.options.now checkpoints c.args.snapshot.now b) c.if-has_told.true knows))
    c.still.ensures

pub returns-else-has_told-clause-told : goal.returns-else-has_told-clause-told
returns-else-has_told-clause-told g c checkpoints knows =
    IfOk-weaker c.explained.result _ _
    (λ told is. anomaly_told c.args.run.now.options.now checkpoints c.args.snapshot.now told
    (subst (λ (v : WatchVerdict). IsVerdict c.args.snapshot.now c.args.run.now.options.now.level v) c.in-Anomaly.is c.requires.verdict) is.0 is.1
    (subst (λ (b : Bool). Knows c.args.run.now.options.now checkpoints c.args.snapshot.now b) c.if-has_told.false knows))
    c.explained.ensures

pub returns-in-Unresolved-clause-told : goal.returns-in-Unresolved-clause-told
returns-in-Unresolved-clause-told g c checkpoints knows =
    IfOk-weaker c.explained-in-Unresolved.result _ _
    (λ told is. unresolved_told c.args.run.now.options.now checkpoints c.args.snapshot.now told c.args.has_told
    (subst (λ (v : WatchVerdict). IsVerdict c.args.snapshot.now c.args.run.now.options.now.level v) c.in-Unresolved.is c.requires.verdict) is.0 is.1 knows)
    c.explained-in-Unresolved.ensures

pub returns-in-Consistent-clause-faults : goal.returns-in-Consistent-clause-faults
returns-in-Consistent-clause-faults g c = IfOk-weaker c.consistent.result _ _ (λ told is. is.2) c.consistent.ensures

pub returns-then-has_told-clause-faults : goal.returns-then-has_told-clause-faults
returns-then-has_told-clause-faults g c = IfOk-weaker c.still.result _ _ (λ told is. is.2) c.still.ensures

pub returns-else-has_told-clause-faults : goal.returns-else-has_told-clause-faults
returns-else-has_told-clause-faults g c = IfOk-weaker c.explained.result _ _ (λ told is. is.2) c.explained.ensures

pub returns-in-Unresolved-clause-faults : goal.returns-in-Unresolved-clause-faults
returns-in-Unresolved-clause-faults g c = IfOk-weaker c.explained-in-Unresolved.result _ _ (λ told is. is.2) c.explained-in-Unresolved.ensures
