use Rattle.std.proofs.Common.{◌≡◌, ◌∷◌, ◌++◌, [], map, sym, ap, subst, ◌∙◌, rules}
use Rattle.tcc_txn.specs.Finished.{IsWithinLimits, with_transaction}
use Rattle.tcc_txn.specs.Nested.{IsNested}
use Rattle.tcc_txn.proofs.Growing.{err-always}
use Rattle.tcc_txn.proofs.Nesting.{nested_on, nested_transaction}
use Rattle.tcc_rows.specs.Reached.{row_reached}
use Rattle.tcc_rows.specs.Settling.{told}
use Rattle.tcc_rows.specs.declared.rows.RowsStage.TheVariants as stage
use Rattle.tcc_rows.proofs.RecordingSteps.{adds-one, if-err-of, room-one}
use Rattle.tcc_rows.proofs.recording.RecordingWithin.take_all.Goals as goal

pub loop-one-preserved : goal.loop-one-preserved
loop-one-preserved g c =
    let step : c.loop-one.one-iterator.rest.items ≡ c.in-Some.one ∷ c.next.new.self.rest.items = search rules in
    let (kept, whole, grown) = c.loop-one.invariant.added in
    let more = adds-one g.B.Bounds.limits c.args.self.now.snapshot (map told c.args.seen.items) (map told c.loop-one.one-iterator.rest.items)
    (map told c.next.new.self.rest.items) kept c.in-Some.one whole (ap (map told) step) in
    record {
      added = (
        kept ++ told c.in-Some.one ∷ [],
        more.0,
        c.in_ok-take.ensures.taken.0 ∙ ap (λ s. with_transaction s c.in-Some.one.0 c.in-Some.one.1) grown ∙ more.1,
      );
      rows = c.in_ok-take.ensures.taken.1 ∙ c.loop-one.invariant.rows;
      pending = c.in_ok-take.ensures.pending ∙ c.loop-one.invariant.pending;
      followed = λ pending before. c.in_ok-take.ensures.followed pending (c.loop-one.invariant.followed pending before);
      continues =
          nested_on c.args.self.now.snapshot c.loop-one.self.snapshot c.take.new.self.snapshot c.loop-one.invariant.continues
          (subst (IsNested c.loop-one.self.snapshot) (sym c.in_ok-take.ensures.taken.0) (nested_transaction c.loop-one.self.snapshot c.in-Some.one.0 c.in-Some.one.1));
    }

pub returns-in_err-take-clause-pending : goal.returns-in_err-take-clause-pending
returns-in_err-take-clause-pending g c = c.in_err-take.ensures.pending ∙ c.loop-one.invariant.pending

pub returns-in_err-take-clause-followed : goal.returns-in_err-take-clause-followed
returns-in_err-take-clause-followed g c pending before = c.in_err-take.ensures.followed pending (c.loop-one.invariant.followed pending before)

pub returns-in_err-take-clause-part : goal.returns-in_err-take-clause-part
returns-in_err-take-clause-part g c =
    let (kept, whole, grown) = c.loop-one.invariant.added in
    err-always c.from_residual.result (kept, map told c.loop-one.one-iterator.rest.items, whole, c.in_err-take.ensures.kept ∙ grown)

pub returns-in_err-take-clause-stopped : goal.returns-in_err-take-clause-stopped
returns-in_err-take-clause-stopped g c =
    let fault = c.in_err-take.field-0.0 in
    if-err-of g.B.Bounds.limits _ c.from_residual.result fault c.from_residual.ensures.1
    (subst (λ rows. (c.take.new.self.rows ≡ record rows { stage = stage.Stopped fault }) × (fault.row ≡ row_reached rows)) c.loop-one.invariant.rows
    c.in_err-take.ensures.stopped)

pub returns-in_err-take-clause-memory : goal.returns-in_err-take-clause-memory
returns-in_err-take-clause-memory g c room =
    let step : c.loop-one.one-iterator.rest.items ≡ c.in-Some.one ∷ c.next.new.self.rest.items = search rules in
    let (kept, whole, grown) = c.loop-one.invariant.added in
    let fits = room-one g.B.Bounds.limits c.args.self.now.snapshot (map told c.args.seen.items) (map told c.loop-one.one-iterator.rest.items)
    (map told c.next.new.self.rest.items) kept c.in-Some.one whole (ap (map told) step) room in
    if-err-of g.B.Bounds.limits _ c.from_residual.result c.in_err-take.field-0.0 c.from_residual.ensures.1
    (c.in_err-take.ensures.memory (subst (λ s. IsWithinLimits g.B.Bounds.limits (with_transaction s c.in-Some.one.0 c.in-Some.one.1)) (sym grown) fits))

pub returns-in_err-take-clause-continues : goal.returns-in_err-take-clause-continues
returns-in_err-take-clause-continues g c = subst (IsNested c.args.self.now.snapshot) (sym c.in_err-take.ensures.kept) c.loop-one.invariant.continues
