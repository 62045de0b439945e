-- Rows of a block of sessions, and tables of them: for a set of transactions, and for one more of them.
use Rattle.std.proofs.Common.{◌≡◌, ◌<◌, ◌+◌, ◌↔◌, ◌⊎◌, inl, inr, ℕ, List, length, get_or, set, take, slice_index, ◌∙◌, subst, arith}
use Rattle.std.specs.List.{All, Contains}
use Rattle.std.proofs.lemmas.List.{get_or_default, length-set}
use Rattle.std.proofs.lemmas.List.Elements.{All-contains}
use Rattle.tcc_reads.specs.History.{History, IsBySession, count, owner}
use Rattle.tcc_graph.specs.Tables.{row_of}
use Rattle.tcc_clocks.specs.Clocks.{AreOwners, IsEntry, AreEntries, IsOn, IsWith, HasRows, IsLike}
use Rattle.tcc_clocks.specs.private.Rows.{joined, empty_entry, with_own}
use Rattle.tcc_clocks.specs.declared.latest.TheConstants.{WIDE}
use Rattle.tcc_clocks.specs.declared.side.Side.{Side}
use Rattle.tcc_clocks.proofs.Along.{rows_more}
use Rattle.tcc_clocks.proofs.EntryLemmas.{entry_same, entry_none, entry_both, entry_one, entry_any}
use Rattle.tcc_clocks.proofs.UpTo.{with_more}

-- ---- rows
pub entries_same : (side : Side) (h : History) (P Q : ℕ → Type 0) (from : ℕ) (row : List ℕ) → ((b : ℕ) → P b ↔ Q b) → AreEntries side h P from row
    → AreEntries side h Q from row
entries_same side h P Q from row same are = record {
  wide = are.wide;
  each = λ k l. entry_same side h P Q (from + k) (slice_index row k) (λ b some below owned. same b) (are.each k l);
}

pub entries_none : (side : Side) (h : History) (P : ℕ → Type 0) (from : ℕ) (row : List ℕ) → length row ≡ WIDE
    → ((k : ℕ) → k < length row → slice_index row k ≡ empty_entry side (count h)) → ((b : ℕ) → P b → ⊥) → AreEntries side h P from row
entries_none side h P from row wide empty nobody = record {
  wide = wide;
  each = λ k l. entry_none side h P (from + k) (slice_index row k) (empty k (omega (arith, l, wide))) nobody;
}

-- one more transaction, and what is on its side
pub entries_more : (side : Side) (h : History) → IsBySession h.entries → (owners : List ℕ) → AreOwners h owners → (from : ℕ) (numbers : List ℕ) (i p : ℕ)
    (old mid new other : List ℕ) → i < length numbers → get_or numbers i 0 ≡ p → p < count h
    → AreEntries side h (IsWith side h (Contains (take i numbers))) from old → AreEntries side h (IsOn side h p) from other
    → length mid ≡ length old → ((k : ℕ) → k < length old → slice_index mid k ≡ joined side (slice_index other k) (slice_index old k))
    → length new ≡ length mid → ((k : ℕ) → k < length mid → slice_index new k ≡ with_own side owners from p k (slice_index mid k))
    → AreEntries side h (IsWith side h (Contains (take (i + 1) numbers))) from new
entries_more side h numbered owners known from numbers i p old mid new other inside here below are on long_mid each_mid long_new each_new = record {
  wide = long_new ∙ (long_mid ∙ are.wide);
  each = λ k l. entry_same side h (λ b. (IsWith side h (Contains (take i numbers)) b ⊎ IsOn side h p b) ⊎ (b ≡ p))
      (IsWith side h (Contains (take (i + 1) numbers))) (from + k) (slice_index new k)
      (λ b some small owned. with_more side h numbers i p inside here b) (step k l);
}
  where
    step : (k : ℕ) → k < WIDE
        → IsEntry side h (λ b. (IsWith side h (Contains (take i numbers)) b ⊎ IsOn side h p b) ⊎ (b ≡ p)) (from + k) (slice_index new k)
    step k l =
        rw (each_new k (omega (arith, l, long_mid, are.wide)), each_mid k (omega (arith, l, are.wide)))
        (entry_one side h numbered owners known (λ b. IsWith side h (Contains (take i numbers)) b ⊎ IsOn side h p b) from k p
        (joined side (slice_index other k) (slice_index old k)) below (λ b is. inr is)
        (entry_both side h (IsOn side h p) (IsWith side h (Contains (take i numbers))) (from + k) (slice_index other k) (slice_index old k) (on.each k l) (are.each k l)))

-- all of these have the row of one of them, and none is in the block
pub entries_like : (side : Side) (h : History) (owners : List ℕ) → AreOwners h owners → (from : ℕ) (numbers : List ℕ) (table : List (List ℕ)) (other : ℕ)
    → Contains numbers other → ((k : ℕ) → k < length numbers → IsLike table owners from other (slice_index numbers k))
    → All (λ p. p < count h) numbers → All (λ p. AreEntries side h (IsOn side h p) from (row_of table p)) numbers
    → AreEntries side h (IsWith side h (Contains numbers)) from (row_of table other)
entries_like side h owners known from numbers table other there alike inside rows = record {
  wide = (row_at other there).wide;
  each = λ k l. entry_same side h (λ b. (p : ℕ) × Contains numbers p × IsOn side h p b) (IsWith side h (Contains numbers)) (from + k)
      (slice_index (row_of table other) k) (λ b some below owned. (λ w. (w.0, w.1, inr w.2), λ w. beside k l b some owned w.0 w.1 w.2))
      (entry_any side h (Contains numbers) (IsOn side h) (from + k) other (slice_index (row_of table other) k) there (λ p in_them. alike_at p in_them k l));
}
  where
    row_at : (p : ℕ) → Contains numbers p → AreEntries side h (IsOn side h p) from (row_of table p)
    row_at p in_them = All-contains (λ q. AreEntries side h (IsOn side h q) from (row_of table q)) numbers p rows in_them

    like_at : (p : ℕ) → Contains numbers p → IsLike table owners from other p
    like_at p (i, within, at) =
        let here : slice_index numbers i ≡ p = get_or_default numbers i 0 p within ∙ at in
        subst (λ (z : ℕ). IsLike table owners from other z) here (alike i within)

    alike_at : (p : ℕ) → Contains numbers p → (k : ℕ) → k < WIDE → IsEntry side h (IsOn side h p) (from + k) (slice_index (row_of table other) k)
    alike_at p in_them k l =
        subst (λ (row : List ℕ). IsEntry side h (IsOn side h p) (from + k) (slice_index row k)) (like_at p in_them).0 ((row_at p in_them).each k l)

    beside : (k : ℕ) → k < WIDE → (b : ℕ) → 0 < b → owner h b ≡ from + k → (p : ℕ) → Contains numbers p → (b ≡ p) ⊎ IsOn side h p b
        → (q : ℕ) × Contains numbers q × IsOn side h q b
    beside k l b some owned p in_them (inl same) =
        let more : 0 < p = omega (arith, some, same) in
        let mine : owner h p ≡ from + k = subst (λ (z : ℕ). owner h z ≡ from + k) same owned in
        absurd ((like_at p in_them).1 more k l (known.each p more (All-contains (λ q. q < count h) numbers p inside in_them) ∙ mine))
    beside k l b some owned p in_them (inr on) = (p, in_them, on)

-- ---- tables
module _ (h : History) (IsRow : ℕ → List ℕ → Type 0) (table : List (List ℕ)) (order : List ℕ) where
  pub table_more : (row : List ℕ) (i : ℕ) → i < length order → get_or order i 0 < count h → HasRows h IsRow (Contains (take i order)) table
      → IsRow (get_or order i 0) row → HasRows h IsRow (Contains (take (i + 1) order)) (set table (get_or order i 0) row)
  table_more row i inside low before new = record {
    long = omega (arith, before.long, length-set {A = List ℕ});
    each = rows_more h IsRow table order row i inside (omega (arith, low, before.long)) before.each new;
  }

  pub table_whole : ((c : ℕ) → c < count h → Contains order c) → HasRows h IsRow (Contains order) table → HasRows h IsRow (λ c. c < count h) table
  table_whole each is = record { long = is.long; each = λ c l below. is.each c l (each c l) }
