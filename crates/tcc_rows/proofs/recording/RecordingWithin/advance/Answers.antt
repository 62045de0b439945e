use Rattle.std.proofs.Common.{Ok, inr, sym, ap, subst, ◌∙◌}
use Rattle.tcc_rows.specs.Ahead.{has_ended}
use Rattle.tcc_rows.specs.Recordings.{TakesCheckpoint}
use Rattle.tcc_txn.specs.Nested.{IsNested}
use Rattle.tcc_txn.proofs.Nesting.{nested_on}
use Rattle.tcc_rows.proofs.RecordSteps.{failure-of-none}
use Rattle.tcc_rows.proofs.RecordingSteps.{err-of, follows-unknown, if-err-of, loses_shown, room-now, settled-end, settled-seal}
use Rattle.tcc_rows.proofs.recording.RecordingWithin.advance.Goals.{in-End, in-Seal}
use Rattle.tcc_rows.proofs.recording.RecordingWithin.advance.Goals as goal

pub returns-in_err-checkpoint-clause-failed : goal.returns-in_err-checkpoint-clause-failed
returns-in_err-checkpoint-clause-failed g c =
    if-err-of g.B.Bounds.limits _ c.from_residual.result c.in_err-checkpoint.field-0.0 c.from_residual.ensures.1 c.in_err-checkpoint.ensures.failed

pub returns-in_err-settle-clause-faulty : goal.returns-in_err-settle-clause-faulty
returns-in_err-settle-clause-faulty g c =
    let fault = c.in_err-settle.field-0.0 in
    if-err-of g.B.Bounds.limits _ c.from_residual-in_err-settle.result fault c.from_residual-in_err-settle.ensures.1
    (λ fresh is all taken ahead within recording.
    let way = c.in_ok-checkpoint.ensures.passed taken ahead recording in
    let room = room-now g.B.Bounds.limits g.R.Read.remaining taken ahead c.in_ok-checkpoint.checkpoint c.pass_items.new.self c.settle.new.self way in
    absurd (failure-of-none fault.kind (inr (c.in_err-settle.ensures.memory way.followed room)) is))

pub returns-in_err-settle-clause-checkpoint : goal.returns-in_err-settle-clause-checkpoint
returns-in_err-settle-clause-checkpoint g c taken ahead recording =
    let way = c.in_ok-checkpoint.ensures.passed taken ahead recording in
    let fault = c.in_err-settle.field-0.0 in
    let room = room-now g.B.Bounds.limits g.R.Read.remaining taken ahead c.in_ok-checkpoint.checkpoint c.pass_items.new.self c.settle.new.self way in
    subst (λ r. TakesCheckpoint g.B.Bounds.limits g.R.Read.remaining taken ahead r c.settle.new.self)
    (sym (err-of g.B.Bounds.limits c.from_residual-in_err-settle.result fault c.from_residual-in_err-settle.ensures.1))
    (loses_shown g.B.Bounds.limits g.R.Read.remaining taken ahead c.in_ok-checkpoint.checkpoint c.pass_items.new.self c.settle.new.self way fault
    (c.in_err-settle.ensures.memory way.followed room) (ap (λ rows. rows.stage) c.in_err-settle.ensures.stopped.0)
    (c.in_err-settle.ensures.part way.followed) (c.settle.ensures.followed way.followed))

pub returns-in_err-settle-clause-continues : goal.returns-in_err-settle-clause-continues
returns-in_err-settle-clause-continues g c =
    nested_on c.args.self.now.snapshot c.pass_items.new.self.snapshot c.settle.new.self.snapshot c.pass_items.ensures.continues c.settle.ensures.continues

pub returns-clause-checkpoint : goal.returns-clause-checkpoint
returns-clause-checkpoint g c taken ahead recording =
    let way = c.in_ok-checkpoint.ensures.passed taken ahead recording in
    let settled = c.in_ok-settle.ensures.settled way.followed in
    elim c.match-checkpoint.branch [
      | in-Seal w ↦ subst (λ m. TakesCheckpoint g.B.Bounds.limits g.R.Read.remaining taken ahead (Ok m) c.match-checkpoint.self) (sym w.in-Seal.is)
          (rw w.self-is (settled-seal g.B.Bounds.limits g.R.Read.remaining taken ahead c.in_ok-checkpoint.checkpoint c.pass_items.new.self c.settle.new.self way
          settled.0 settled.2 w.in-Seal.is settled.1 (ap (λ rows. rows.stage) settled.2 ∙ c.in_ok-checkpoint.ensures.sealed (ap Ok w.in-Seal.is))
          (c.settle.ensures.followed way.followed)))
      | in-End w ↦ subst (λ m. TakesCheckpoint g.B.Bounds.limits g.R.Read.remaining taken ahead (Ok m) c.match-checkpoint.self) (sym w.in-End.is)
          (rw w.self-is (settled-end g.B.Bounds.limits g.R.Read.remaining taken ahead c.in_ok-checkpoint.checkpoint c.pass_items.new.self
          w.forget_pending.new.self way
          (w.forget_pending.ensures.kept.0 ∙ settled.0) (w.forget_pending.ensures.kept.1 ∙ settled.2) w.in-End.is w.forget_pending.ensures.forgotten.0
          (ap has_ended (w.forget_pending.ensures.kept.1 ∙ settled.2) ∙ c.in_ok-checkpoint.ensures.ends (ap Ok w.in-End.is))
          (follows-unknown w.forget_pending.new.self w.forget_pending.ensures.forgotten.1)))
    ]

pub returns-clause-continues : goal.returns-clause-continues
returns-clause-continues g c =
    let nested = nested_on c.args.self.now.snapshot c.pass_items.new.self.snapshot c.settle.new.self.snapshot c.pass_items.ensures.continues c.settle.ensures.continues in
    elim c.match-checkpoint.branch [
      | in-Seal w ↦ rw w.self-is nested
      | in-End w ↦ rw w.self-is (subst (IsNested c.args.self.now.snapshot) (sym w.forget_pending.ensures.kept.0) nested)
    ]
