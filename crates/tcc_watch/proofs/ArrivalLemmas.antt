-- What has come: one transaction more, one delivered, and what may be answered.
use Rattle.std.proofs.Common.{ℕ, ◌≡◌, ◌++◌, inl, inr, Bool, true, false, List, [], ◌∷◌, get_or, set, refl, sym, ap, subst, ◌∙◌, arith}
use Rattle.std.specs.Prelude.{IfSome, Option, None, Some}
use Rattle.std.specs.FinMap.{empty}
use Rattle.std.proofs.lemmas.List.{length-map}
use Rattle.tcc_txn.specs.Finished.{with_transaction}
use Rattle.tcc_txn.specs.Nested.{list_of}
use Rattle.tcc_txn.specs.Snapshots.{Sessions}
use Rattle.tcc_txn.specs.Transactions.{Transaction}
use Rattle.tcc_txn.proofs.SortedParts.{name_cmp}
use Rattle.tcc_reads.specs.Faults.{read_faults}
use Rattle.tcc_reads.specs.History.{History}
use Rattle.tcc_reads.specs.Sources.{history}
use Rattle.tcc_graph.specs.Levels.{causally, judged}
use Rattle.tcc_graph.specs.Routes.{HasCycle}
use Rattle.tcc_graph.specs.declared.level.Level.{Level}
use Rattle.tcc_graph.specs.declared.level.Level.TheVariants as level
use Rattle.tcc_graph.proofs.Leveled.{causal_cycle}
use Rattle.tcc_watch.specs.Ledger.{IsLedger, Lists}
use Rattle.tcc_watch.specs.Verdicts.{IsVerdict}
use Rattle.tcc_watch.specs.declared.arrivals.Arrivals.{Arrivals}
use Rattle.tcc_watch.specs.declared.delivered.Delivered.{Delivered}
use Rattle.tcc_watch.specs.declared.kept.Kept.{Kept}
use Rattle.tcc_watch.specs.declared.lines.Line.{Line}
use Rattle.tcc_watch.specs.declared.verdict.WatchVerdict.TheVariants as verdict
use Rattle.tcc_watch.specs.private.Arrivals.{AreArrivals, IsFirstReady, IsOpen, NoneWaits}
use Rattle.tcc_watch.specs.private.Deciding.{IsKnownAs}
use Rattle.tcc_watch.specs.private.Keeping.{ComesNext, Growth, IsKept, history_of, nothing}
use Rattle.tcc_watch.specs.private.Lines.{AreLines, GoesOn, WaitsMore, names_of}
use Rattle.tcc_watch.proofs.Alike.{carried}
use Rattle.tcc_watch.proofs.Deliveries.{home, there}
use Rattle.tcc_watch.proofs.LedgerDelivery.{delivery, f}
use Rattle.tcc_watch.proofs.LedgerSites.{faultless}
use Rattle.tcc_watch.proofs.LedgerSteps.{session_more}
use Rattle.tcc_watch.proofs.LineLemmas.{all_delivered, is_longer, lines_on, name_at, names_more, names_on, next_place, no_lines, same_names_at, unknown_name, waits_at, waits_new, with_next}
use Rattle.tcc_watch.proofs.ValueLemmas.{session_values}

-- ---- nothing has come
pub first_arrivals : (lines : List Line) (kept : Kept) → lines ≡ [] → IsKept nothing [] kept
    → (lists : Lists) × AreLines (empty {R = name_cmp}) lists lines × IsKept lists (names_of lines) kept
first_arrivals lines kept none held = (
  nothing,
  subst (λ (z : List Line). AreLines (empty {R = name_cmp}) nothing z) (sym none) (no_lines nothing (λ name. refl)),
  subst (λ (z : List Line). IsKept nothing (names_of z) kept) (sym none) held,
)

pub opened : (o : Option Arrivals) (s : Sessions) → IfSome o (AreArrivals s) → IfSome o IsOpen
opened None s are = are
opened (Some a) s are = (s, are)

-- ---- a transaction comes
pub one_waits : (s : Sessions) (old : Arrivals) (new : List Line) (name : List ℕ) (txn : Transaction) (k : ℕ) → AreArrivals s old
    → WaitsMore old.lines.items new name txn k
    → (lists : Lists) × AreLines (with_transaction s name txn) lists new × IsKept lists (names_of new) old.kept
one_waits s old new name txn k (lists, lines, kept) (inl (is, (line, more, set_is))) = (
  lists,
  subst (λ (z : List Line). AreLines (with_transaction s name txn) lists z) (sym set_is)
      (waits_at s lists old.lines.items lines name txn kept.ledger.apart k is line more),
  subst (λ (z : List (List ℕ)). IsKept lists z old.kept)
      (sym (ap names_of set_is ∙ same_names_at s lists old.lines.items lines name txn kept.ledger.apart k is line more)) kept,
)
one_waits s old new name txn k (lists, lines, kept) (inr (none, (at_end, (line, first, longer)))) =
    let unknown = unknown_name old.lines.items name line none in
    let h = history_of old.kept.entries.items in
    let more : IsKept lists (names_of old.lines.items ++ name ∷ []) old.kept
    = record {
      ledger = session_more lists (names_of old.lines.items) h name kept.ledger unknown;
      values = session_values lists (names_of old.lines.items) h name old.kept.values kept.ledger unknown kept.values;
      decided = kept.decided;
    } in (
      lists,
      subst (λ (z : List Line). AreLines (with_transaction s name txn) lists z) (sym longer)
          (waits_new s lists old.lines.items lines name txn none line first),
      subst (λ (z : List (List ℕ)). IsKept lists z old.kept)
          (sym (ap names_of longer ∙ names_more s lists old.lines.items lines name txn none line first.name_is)) more,
    )

-- ---- a transaction is delivered
module _ (a : Arrivals) (index : ℕ) (reads : List (List ℕ × ℕ)) (ready : IsFirstReady a index reads) (old new : Line) (was_old : (d : Line) → get_or a.lines.items index d ≡ old)
    (place : ℕ) (txn : Transaction) (on : GoesOn old new place txn) where
  abbrev pub growth : Lists → Growth
  growth lists = record { old = lists; new = with_next lists old.name txn; names = names_of a.lines.items; name = old.name }

  pub comes_next : (s : Sessions) (are : AreArrivals s a)
      → ComesNext (growth are.0) a.kept (record { session = index; place = place }) txn reads
  comes_next s (lists, lines, kept) = record {
    held = kept;
    longer = is_longer lists old.name txn;
    owned = omega (arith, ready.inside, length-map a.lines.items (λ (line : Line). line.name));
    named = name_at a.lines.items index old ready.inside ∙ ap (λ (z : Line). z.name) (was_old old);
    placed = next_place s lists a.lines.items lines kept.ledger.apart index ready.inside old new was_old place txn on;
    ready = ready.first old txn new.waiting.items (ap (λ (z : Line). z.waiting.items) (was_old old) ∙ on.waited);
  }

  pub one_delivered : (s : Sessions) (are : AreArrivals s a) (lines : List Line) (kept : Kept) → lines ≡ set a.lines.items index new
      → IsKept (with_next are.0 old.name txn) (names_of a.lines.items) kept
      → (lists : Lists) × AreLines s lists lines × IsKept lists (names_of lines) kept
  one_delivered s (lists, told, held) lines kept set_is now = (
    with_next lists old.name txn,
    subst (λ (z : List Line). AreLines s (with_next lists old.name txn) z) (sym set_is)
        (lines_on s lists a.lines.items told held.ledger.apart index ready.inside old new was_old place txn on),
    subst (λ (z : List (List ℕ)). IsKept (with_next lists old.name txn) z kept)
        (sym (ap names_of set_is ∙ names_on s lists a.lines.items told held.ledger.apart index ready.inside old new was_old place txn on)) now,
  )

-- ---- nothing waits
known_none : (h : History) (d : Delivered) (b : Bool) → b ≡ false → IsKnownAs h d b → HasCycle (causally h) → ⊥
known_none h d true is known = cc
known_none h d false is known = known.1

known_cycle : (h : History) (d : Delivered) (b : Bool) → b ≡ true → IsKnownAs h d b → HasCycle (causally h)
known_cycle h d true is known = known
known_cycle h d false is known = cc

module _ (s : Sessions) (a : Arrivals) (are : AreArrivals s a) (none : NoneWaits a.lines.items) where
  abbrev names : List (List ℕ)
  names = names_of a.lines.items

  abbrev h : History
  h = history_of a.kept.entries.items

  whole : IsLedger (list_of s) names h
  whole = subst (λ (z : Lists). IsLedger z names h) (sym (all_delivered s are.0 a.lines.items are.1 none)) are.2.ledger

  resolved : read_faults s ≡ []
  resolved = faultless s names h whole

  cycle_of : (at : Level) → HasCycle (judged h at) → HasCycle (judged (history s) at)
  cycle_of at cycle = carried h (history s) (f s names h whole) at (there s h (f s names h whole) resolved (delivery s names h whole)) cycle

  cycle_in : (at : Level) → HasCycle (judged (history s) at) → HasCycle (judged h at)
  cycle_in at cycle = carried (history s) h _ at (home s h (f s names h whole) resolved (delivery s names h whole)) cycle

  pub told_consistent : a.kept.decided.has_cycle ≡ false → (at : Level) → IsVerdict s at verdict.Consistent
  told_consistent is at = (resolved, λ cycle. by at cycle)
    where
      no_causal : HasCycle (causally h) → ⊥
      no_causal = known_none h a.kept.decided.delivered a.kept.decided.has_cycle is are.2.decided

      by : (at : Level) → HasCycle (judged (history s) at) → ⊥
      by level.Causal cycle = no_causal (cycle_in level.Causal cycle)
      by level.Atomic cycle =
          no_causal (cycle_in level.Causal (cycle.0, cycle.1, causal_cycle (history s) cycle.0 cycle.1 cycle.2))

  pub told_anomaly : a.kept.decided.has_cycle ≡ true → IsVerdict s level.Causal verdict.Anomaly
  told_anomaly is = (resolved, cycle_of level.Causal (known_cycle h a.kept.decided.delivered a.kept.decided.has_cycle is are.2.decided))
