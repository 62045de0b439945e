-- The status of what explain --large says is its verdict.
use Rattle.std.proofs.Common.{refl, true}
use Rattle.std.proofs.lemmas.Result.{IfOk-weaker}
use Rattle.tcc_watch_run.proofs.Quietly.{anomaly_by, anomaly_quietly, consistent_by, consistent_quietly, unresolved_by, unresolved_quietly}
use Rattle.tcc_watch_run.proofs.told.SnapshotAnswer.anew.Goals as goal

pub returns-in_ok-committed-in-Success-clause-told : goal.returns-in_ok-committed-in-Success-clause-told
returns-in_ok-committed-in-Success-clause-told g c checkpoints knows =
    IfOk-weaker c.consistent.result _ _
    (λ told is. consistent_quietly c.args.run.now.options.now checkpoints c.args.snapshot.now told c.args.was_told
    (consistent_by c.args.run.now.options.now c.args.snapshot.now c.in_ok-told.told c.in_ok-told.ensures.0 c.in-Success.is) is.0 is.1 knows)
    c.consistent.ensures

pub returns-in-Anomaly-clause-told : goal.returns-in-Anomaly-clause-told
returns-in-Anomaly-clause-told g c checkpoints knows =
    anomaly_quietly c.args.run.now.options.now checkpoints c.args.snapshot.now (record c.in_ok-told.told { has_told = true })
    (anomaly_by c.args.run.now.options.now c.args.snapshot.now c.in_ok-told.told c.in_ok-told.ensures.0 c.in-Anomaly.is) c.in_ok-told.ensures.0 refl

pub returns-in_default : goal.returns-in_default
returns-in_default g c = record {
  told = λ checkpoints knows.
      unresolved_quietly c.args.run.now.options.now checkpoints c.args.snapshot.now c.in_ok-told.told c.args.was_told
      (unresolved_by c.args.run.now.options.now c.args.snapshot.now c.in_ok-told.told c.in_ok-told.ensures.0 c.in_default.not-Success c.in_default.not-TooFew
      c.in_default.not-Anomaly)
      c.in_ok-told.ensures.0 c.in_ok-told.ensures.1 knows;
  faults = c.in_ok-told.ensures.2;
}
