use Rattle.std.proofs.Common.{◌≡◌, List, true, false, refl, sym, subst, ◌∙◌}
use Rattle.std.specs.Prelude.{Some, None}
use Rattle.tcc_txn.specs.declared.op.Op.{Op}
use Rattle.tcc_watch.specs.private.Operations.{AreKeys}
use Rattle.tcc_watch.specs.private.Values.{AreNoted, ValueMap}
use Rattle.tcc_watch.proofs.KeepingLemmas.{aborted_kept, can_decide, committed_kept}
use Rattle.tcc_watch.proofs.kept.Kept.take.Goals as goal

pub returns-then-not-committed : goal.returns-then-not-committed
returns-then-not-committed c growth next =
    let gone : c.args.txn.now.committed ≡ false = sym c.committed.ensures ∙ c.if-not-committed.true in
    aborted_kept growth c.args.self.now c.args.at c.args.txn.now c.args.reads.items next _ gone refl refl
    (subst (λ (z : List Op). AreNoted z None z c.args.self.now.values c.note_values.new.values) c.ops.ensures.value c.in_ok-note_values.ensures)

pub enter-requires : goal.enter-requires
enter-requires c =
    let ended : c.args.txn.now.committed ≡ true = sym c.committed.ensures ∙ c.if-not-committed.false in
    can_decide c.requires.0 c.args.self.now c.args.at c.args.txn.now c.args.reads.items c.requires.1 c.in_ok-writes.writes.items ended
    (subst (λ (z : List Op). AreKeys z c.in_ok-writes.writes.items) c.ops-2.ensures.value c.in_ok-writes.ensures)

pub returns : goal.returns
returns c growth next =
    let ended : c.args.txn.now.committed ≡ true = sym c.committed.ensures ∙ c.if-not-committed.false in
    let keys : AreKeys c.args.txn.now.ops c.in_ok-writes.writes.items
    = subst (λ (z : List Op). AreKeys z c.in_ok-writes.writes.items) c.ops-2.ensures.value c.in_ok-writes.ensures in
    let done : AreNoted c.args.txn.now.ops (Some c.in_ok-number.number) c.args.txn.now.ops c.enter.new.self.values c.note_values-2.new.values
    = subst (λ (z : List Op). AreNoted z (Some c.in_ok-number.number) z c.enter.new.self.values c.note_values-2.new.values) c.ops-3.ensures.value
    c.in_ok-note_values-2.ensures in
    committed_kept growth c.args.self.now c.args.at c.args.txn.now c.args.reads.items next c.in_ok-writes.writes.items ended keys _
    (record { at = c.args.at; writes = c.in_ok-writes.writes; reads = c.args.reads }) c.in_ok-number.number c.in_ok-enter.ensures.entries refl
    c.in_ok-enter.ensures.decided c.in_ok-number.ensures
    (subst (λ (z : ValueMap). AreNoted c.args.txn.now.ops (Some c.in_ok-number.number) c.args.txn.now.ops z c.note_values-2.new.values)
    c.in_ok-enter.ensures.values done)
