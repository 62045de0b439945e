use Rattle.std.proofs.Common.{◌≡◌, ◌≤◌, Bool, true, false, ℕ, ◌+◌, ◌∷◌, [], arith}
use Rattle.std.proofs.lemmas.List.Elements.{All-append, All-cons, All-nil}
use Rattle.std.specs.Prelude.{if◌then◌else◌}
use Rattle.tcc_txn.specs.Transactions.{Transaction}
use Rattle.tcc_reads.specs.declared.located.Place.{Place}
use Rattle.tcc_reads.specs.private.Numbers.{IsPlace}
use Rattle.tcc_reads.proofs.Places.{more_places}
use Rattle.tcc_reads.proofs.numbering.push_session.Goals as goal

next_few : (committed : Bool) (number next : ℕ) → next ≡ (if committed then number + 1 else number) → next ≤ number + 1
next_few true number next is = omega (arith, is)
next_few false number next is = omega (arith, is)

pub loop-before-preserved : goal.loop-before-preserved
loop-before-preserved g c =
    let s = c.args.snapshot.now in
    let before : ℕ = c.loop-before.before in
    let number : ℕ = c.loop-before.number in
    let txn : Transaction = c.recorded_at.result in
    let place : Place = record { session = c.args.session; before = before; number = number } in
    let next : c.next_number-number.result ≡ (if txn.committed then number + 1 else number)
    = rw c.committed-committed.ensures at c.next_number-number.ensures in
    let stands : IsPlace s place = record {
      session = c.requires.some;
      before = omega (arith, c.finished-before-end.ensures.value, c.loop-before-test.true);
      few = omega (arith, c.finished-before-end.ensures.value, c.loop-before-test.true, c.requires.few);
    } in
    record {
      list = λ rest. rw (c.in_ok-push.ensures.items, next)
          (more_places s c.args.session before number txn _ c.recorded_at.ensures c.loop-before.list.items _ rest (c.loop-before.invariant.list rest));
      few = omega (arith, next_few txn.committed number c.next_number-number.result next, c.loop-before.invariant.few);
      places = λ all. rw c.in_ok-push.ensures.items
          (All-append (IsPlace s) c.loop-before.list.items (place ∷ []) (c.loop-before.invariant.places all)
          (All-cons (IsPlace s) place [] stands (All-nil (IsPlace s))));
    }
