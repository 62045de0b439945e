use Rattle.std.proofs.Common.{ap, sym, subst, ◌∙◌, arith, inl, inr}
use Rattle.tcc_txn.specs.Finished.{IsWithinLimits, with_transaction}
use Rattle.tcc_txn.specs.Limits.{most_sessions, most_transactions}
use Rattle.tcc_txn.specs.private.SnapshotStorage.{IsStoredWithin}
use Rattle.tcc_txn.specs.private.Storing.{parts_in}
use Rattle.tcc_txn.proofs.GrownSnapshot.{count-grown, crowded, full, shown-grown, stored-grown}
use Rattle.tcc_txn.proofs.snapshot.SnapshotWithin.add_told.Goals as goal

pub returns-then-self-transactions-clause-refused : goal.returns-then-self-transactions-clause-refused
returns-then-self-transactions-clause-refused g c within =
    absurd (full g.B.Bounds.limits (parts_in c.self.inside.sessions) c.args.session c.args.txn c.self.invariant.stored
    (omega (arith, c.if-self-transactions.true, c.transactions.ensures, ap most_transactions c.limits-limits.ensures, c.self.invariant.counted))
    (subst (λ s. IsWithinLimits g.B.Bounds.limits (with_transaction s c.args.session c.args.txn)) (sym c.self.view_is) within))

pub add-requires : goal.add-requires
add-requires g c = c.self.invariant.stored.sorted

pub invariant_of-self : goal.invariant_of-self
invariant_of-self g c =
    let old = parts_in c.self.inside.sessions in
    let new = parts_in c.add.new.self in
    record {
      stored =
          stored-grown g.B.Bounds.limits old new c.args.session c.args.txn c.self.invariant.stored c.in-Ok.ensures.added
          (λ none. omega (arith, c.in-Ok.ensures.few none, ap most_sessions c.limits-limits.ensures))
          (omega (arith, c.if-self-transactions.false, c.transactions.ensures, ap most_transactions c.limits-limits.ensures, c.self.invariant.counted));
      counted =
          omega (
            arith,
            c.self.invariant.counted,
            count-grown g.B.Bounds.limits old new c.args.session c.args.txn c.self.invariant.stored c.in-Ok.ensures.added,
          );
      plain = λ small. c.in-Ok.ensures.plain (c.self.invariant.plain small);
    }

pub invariant_of-self-in-Err : goal.invariant_of-self-in-Err
invariant_of-self-in-Err g c = record {
  stored = subst (IsStoredWithin g.B.Bounds.limits) (sym c.in-Err.ensures.kept) c.self.invariant.stored;
  counted = rw c.in-Err.ensures.kept c.self.invariant.counted;
  plain = λ small. c.in-Err.ensures.plain (c.self.invariant.plain small);
}

pub returns-in-Ok-clause-added : goal.returns-in-Ok-clause-added
returns-in-Ok-clause-added g c =
    shown-grown g.B.Bounds.limits (parts_in c.self.inside.sessions) (parts_in c.add.new.self) c.args.session c.args.txn c.self.invariant.stored
    (invariant_of-self g c).stored c.in-Ok.ensures.added
    ∙ ap (λ s. with_transaction s c.args.session c.args.txn) c.self.view_is

pub returns-in-Err-clause-refused : goal.returns-in-Err-clause-refused
returns-in-Err-clause-refused g c within = elim c.in-Err.ensures.refused [
  | inl memory ↦ memory
  | inr crowd ↦ absurd (crowded g.B.Bounds.limits (parts_in c.self.inside.sessions) c.args.session c.args.txn c.self.invariant.stored
      (omega (arith, crowd.0, ap most_sessions c.limits-limits.ensures)) crowd.1
      (subst (λ s. IsWithinLimits g.B.Bounds.limits (with_transaction s c.args.session c.args.txn)) (sym c.self.view_is) within))
]
