-- One transaction more in what is kept of those that were delivered.
use Rattle.std.proofs.Common.{ℕ, ◌+◌, ◌≡◌, ◌++◌, true, false, List, [], ◌∷◌, length, refl, sym, ap, subst, ◌∙◌, arith}
use Rattle.std.specs.Prelude.{Some, None}
use Rattle.std.proofs.lemmas.List.{length-map, map-append}
use Rattle.tcc_txn.specs.Transactions.{Transaction}
use Rattle.tcc_reads.specs.History.{Entry, History, count, initial}
use Rattle.tcc_watch.specs.Delivered.{with_last}
use Rattle.tcc_watch.specs.Ledger.{IsLedger}
use Rattle.tcc_watch.specs.declared.at.At.{At}
use Rattle.tcc_watch.specs.declared.decided.Decided.{Decided}
use Rattle.tcc_watch.specs.declared.kept.Entered.{Entered}
use Rattle.tcc_watch.specs.declared.kept.Kept.{Kept}
use Rattle.tcc_watch.specs.private.Deciding.{CanDecide, IsDecided}
use Rattle.tcc_watch.specs.private.Keeping.{ComesNext, Growth, IsKept, entry_of, history_of, nothing}
use Rattle.tcc_watch.specs.private.LedgerSteps.{AreNew, IsNext}
use Rattle.tcc_watch.specs.private.Operations.{AreKeys}
use Rattle.tcc_watch.specs.private.Tables.{Arriving}
use Rattle.tcc_watch.specs.private.Values.{AreNoted, AreValues, ValueMap, noted}
use Rattle.tcc_watch.proofs.LedgerSteps.{aborted_more, committed_more, entered_new, may_come}
use Rattle.tcc_watch.proofs.ValueLemmas.{aborted_values, are_new, committed_values, next_of}

abbrev with_entries : List Entry → History
with_entries entries = record { sessions = []; entries = initial ∷ entries }

history_more : (entries : List Entered) (x : Entered) → history_of (entries ++ x ∷ []) ≡ with_last (history_of entries) (entry_of x)
history_more entries x = ap with_entries (map-append entry_of entries (x ∷ []))

pub count_kept : (entries : List Entered) → count (history_of entries) ≡ length entries + 1
count_kept entries = omega (arith, length-map entries entry_of)

module _ (g : Growth) (kept : Kept) (at : At) (txn : Transaction) (reads : List (List ℕ × ℕ)) (next : ComesNext g kept at txn reads) where
  abbrev h : History
  h = history_of kept.entries.items

  fresh : AreNew g.old txn.ops
  fresh = are_new g.old g.names h kept.values next.held.values next.held.ledger.some txn.ops next.ready.unwritten

  -- ---- an aborted one
  pub aborted_kept : (later : Kept) → txn.committed ≡ false → later.entries.items ≡ kept.entries.items → later.decided ≡ kept.decided
      → AreNoted txn.ops None txn.ops kept.values later.values → IsKept g.new g.names later
  aborted_kept later gone entries decided done = record {
    ledger = subst (λ (z : List Entered). IsLedger g.new g.names (history_of z)) (sym entries)
        (aborted_more g.old g.new g.name txn next.longer g.names h next.held.ledger fresh gone);
    values = subst (λ (z : List Entered). AreValues g.new g.names (history_of z) later.values) (sym entries)
        (aborted_values g.old g.new g.name txn next.longer kept.values later.values g.names h next.held.values done);
    decided = subst (λ (z : List Entered). IsDecided (history_of z) later.decided) (sym entries)
        (subst (λ (z : Decided). IsDecided h z) (sym decided) next.held.decided);
  }

  -- ---- a committed one
  module _ (writes : List (List ℕ)) (ended : txn.committed ≡ true) (keys : AreKeys txn.ops writes) where
    abbrev e : Entry
    e = record { owner = at.session; place = at.place; writes = writes; reads = reads }

    is_next : IsNext g.old g.names h e g.name txn
    is_next =
        next_of g.old g.names h kept.values next.held.values next.held.ledger.some g.name txn e ended next.owned next.named next.placed keys
        (next.ready.sources ended)

    pub arriving : Arriving
    arriving = record { history = h; entry = e }

    pub can_decide : CanDecide (record { history = h; entry = e }) kept.decided at writes reads
    can_decide = record {
      known = next.held.decided;
      coming = record {
        may = may_come g.old g.new g.name txn next.longer g.names h e next.held.ledger is_next fresh;
        session = refl;
        place = refl;
        writes_are = refl;
        reads_are = refl;
        once = keys.once;
      };
    }

    pub committed_kept : (later : Kept) (entered : Entered) (number : ℕ) → later.entries.items ≡ kept.entries.items ++ entered ∷ [] → entry_of entered ≡ e
        → IsDecided (with_last h e) later.decided → number ≡ length kept.entries.items + 1
        → AreNoted txn.ops (Some number) txn.ops kept.values later.values → IsKept g.new g.names later
    committed_kept later entered number entries is decided numbered done =
        let same : history_of later.entries.items ≡ with_last h e
        = ap history_of entries ∙ history_more kept.entries.items entered ∙ ap (with_last h) is in
        let at_end : number ≡ count h = omega (arith, numbered, count_kept kept.entries.items) in
        record {
          ledger = subst (λ (z : History). IsLedger g.new g.names z) (sym same)
              (committed_more g.old g.new g.name txn next.longer g.names h e next.held.ledger is_next fresh);
          values = subst (λ (z : History). AreValues g.new g.names z later.values) (sym same)
              (committed_values g.old g.new g.name txn next.longer kept.values later.values g.names h e next.held.ledger is_next fresh
              (entered_new g.old g.new g.name txn next.longer g.names h e next.held.ledger is_next fresh (count h) refl).numbered next.held.values
              (subst (λ (z : ℕ). AreNoted txn.ops (Some z) txn.ops kept.values later.values) at_end done));
          decided = subst (λ (z : History). IsDecided z later.decided) (sym same) decided;
        }

-- ---- nothing was delivered
first_ledger : IsLedger nothing [] (history_of [])
first_ledger = record {
  some = omega arith;
  first = refl;
  apart = λ i k at_i at_k same. absurd (omega (arith, at_i));
  owned = λ n some below. absurd (omega (arith, some, below));
  once = λ a b some_a at_a some_b at_b owners places. absurd (omega (arith, some_a, at_a));
  each = λ n some below. absurd (omega (arith, some, below));
  all = λ name p txn at ended. absurd (omega (arith, at.1));
  written = λ a b p q t u x v at_a at_b in_t in_u. absurd (omega (arith, at_a.1));
  written_once = λ name p txn at. absurd (omega (arith, at.1));
}

first_values : (values : ValueMap) → ((x : List ℕ) (v : ℕ) → noted values x v ≡ None) → AreValues nothing [] (history_of []) values
first_values values none = record {
  known = λ name p txn x v at there is. absurd (omega (arith, at.1));
  shown = λ x v n is. let e : None ≡ Some (Some n) = sym (none x v) ∙ is in absurd cc;
}

pub first_kept : (kept : Kept) → kept.entries.items ≡ [] → ((x : List ℕ) (v : ℕ) → noted kept.values x v ≡ None) → IsDecided (history_of []) kept.decided
    → IsKept nothing [] kept
first_kept kept entries none decided = record {
  ledger = subst (λ (z : List Entered). IsLedger nothing [] (history_of z)) (sym entries) first_ledger;
  values = subst (λ (z : List Entered). AreValues nothing [] (history_of z) kept.values) (sym entries) (first_values kept.values none);
  decided = subst (λ (z : List Entered). IsDecided (history_of z) kept.decided) (sym entries) decided;
}
