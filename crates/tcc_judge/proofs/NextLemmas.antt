-- The next writers after a place of an order, as one more place is passed.
use Rattle.std.proofs.Common.{◌≡◌, ◌≢◌, ◌<◌, ◌≤◌, ◌+◌, ◌==◌, ◌⊎◌, inl, inr, ℕ, true, false, List, [], map, length, get_or, set, take, replicate, slice_index, refl, sym, ap, subst, ◌∙◌, arith}
use Rattle.std.specs.Prelude.{min}
use Rattle.std.specs.List.{All, Contains, list_any}
use Rattle.std.proofs.lemmas.Bool.{cases_eq, cases_Bool, false≢true, eqb-true, or_cases, or_right}
use Rattle.std.proofs.lemmas.List.{get_or-set_same, get_or-set_other, length-set, get_or-replicate, length-replicate}
use Rattle.tcc_txn.proofs.Lists.{found_number, number_found}
use Rattle.tcc_reads.specs.History.{History, count, owner, entry_at}
use Rattle.tcc_graph.specs.Keys.{keys, key_at, has_name, writes}
use Rattle.tcc_graph.specs.Tables.{row_of}
use Rattle.tcc_graph.proofs.IndexedLemmas.{has_name-indices}
use Rattle.tcc_graph.proofs.SortedKeys.{keys_sorted}
use Rattle.tcc_bits.proofs.Lists.{one_of_taken, still_taken, last_taken, nothing_in}
use Rattle.tcc_clocks.specs.declared.latest.TheConstants.{WIDE}
use Rattle.tcc_judge.specs.declared.least.TheConstants.{NONE}
use Rattle.tcc_judge.specs.private.Least.{IsLeastOf}
use Rattle.tcc_judge.specs.private.NextWriters.{AreNextWriters, IsNextWriter, AreLowered, lowered}
use Rattle.tcc_judge.proofs.LeastLemmas.{least_none, least_same, least_lower}

-- ---- whether a list has a number
known_in : (xs : List ℕ) (k : ℕ) → Contains xs k ⊎ (Contains xs k → ⊥)
known_in xs k = go (cases_Bool (list_any (λ j. j == k) xs))
  where
    go : (list_any (λ j. j == k) xs ≡ true) ⊎ (list_any (λ j. j == k) xs ≡ false) → Contains xs k ⊎ (Contains xs k → ⊥)
    go (inl t) = inl (found_number xs k t)
    go (inr f) = inr (λ is. false≢true (sym f ∙ number_found xs k is))

-- ---- a table in which some keys are lowered
pub lowered_none : (table : List (List ℕ)) (session number : ℕ) → AreLowered [] session number table table
lowered_none table session number = record {
  long = refl;
  wide = λ k l. refl;
  here = λ k l there. absurd (nothing_in k there);
  kept = λ k s l apart. refl;
}

module _ (key_indices : List ℕ) (i session number : ℕ) (old table : List (List ℕ)) (inside : i < length key_indices)
    (low : get_or key_indices i 0 < length old) (wide : session < length (row_of old (get_or key_indices i 0)))
    (w : AreLowered (take i key_indices) session number old table) where
  abbrev pub one : ℕ
  one = get_or key_indices i 0

  there : one < length table
  there = omega (arith, low, w.long)

  abbrev pub new : List (List ℕ)
  new = set table one (lowered (row_of table one) session number)

  same_row : row_of new one ≡ lowered (row_of table one) session number
  same_row = get_or-set_same table one (lowered (row_of table one) session number) [] there

  other_row : (k : ℕ) → k ≢ one → row_of new k ≡ row_of table k
  other_row k apart = get_or-set_other table one k (lowered (row_of table one) session number) [] apart

  at : slice_index (lowered (row_of table one) session number) session ≡ min number (slice_index (row_of table one) session)
  at = get_or-set_same (row_of table one) session (min number (slice_index (row_of table one) session)) 0 (omega (arith, wide, w.wide one low))

  pub lowered_more : AreLowered (take (i + 1) key_indices) session number old (set table (get_or key_indices i 0) (lowered (row_of table (get_or key_indices i 0)) session number))
  lowered_more = record {
    long = length-set table one (lowered (row_of table one) session number) ∙ w.long;
    wide = λ k l. wide_at k l (cases_eq k one);
    here = λ k l is. here_at k l (one_of_taken key_indices i inside k is) (cases_eq k one);
    kept = λ k s l apart. kept_at k s l apart (cases_eq k one) (cases_eq s session);
  }
    where
      wide_at : (k : ℕ) → k < length old → (k ≡ one) ⊎ (k ≢ one) → length (row_of new k) ≡ length (row_of old k)
      wide_at k l (inl same) =
          rw same (ap length same_row ∙ (length-set (row_of table one) session (min number (slice_index (row_of table one) session)) ∙ w.wide one low))
      wide_at k l (inr apart) = ap length (other_row k apart) ∙ w.wide k l

      -- whether it was lowered already
      mine : (Contains (take i key_indices) one) ⊎ (Contains (take i key_indices) one → ⊥)
          → min number (slice_index (row_of table one) session) ≡ min number (slice_index (row_of old one) session)
      mine (inl is) = omega (arith, w.here one low is)
      mine (inr apart) = ap (min number) (w.kept one session low (λ is _. apart is))

      here_at : (k : ℕ) → k < length old → Contains (take i key_indices) k ⊎ (one ≡ k) → (k ≡ one) ⊎ (k ≢ one)
          → slice_index (row_of new k) session ≡ min number (slice_index (row_of old k) session)
      here_at k l is (inl same) = rw same (ap (λ row. slice_index row session) same_row ∙ (at ∙ mine (known_in (take i key_indices) one)))
      here_at k l (inl is) (inr apart) = ap (λ row. slice_index row session) (other_row k apart) ∙ w.here k l is
      here_at k l (inr same) (inr apart) = absurd (apart (sym same))

      kept_at : (k s : ℕ) → k < length old → (Contains (take (i + 1) key_indices) k → s ≡ session → ⊥) → (k ≡ one) ⊎ (k ≢ one) → (s ≡ session) ⊎ (s ≢ session)
          → slice_index (row_of new k) s ≡ slice_index (row_of old k) s
      kept_at k s l apart (inl same) (inl is) = absurd (apart (subst (Contains (take (i + 1) key_indices)) (sym same) (last_taken key_indices i inside)) is)
      kept_at k s l apart (inl same) (inr other) =
          rw same (ap (λ row. slice_index row s) same_row
          ∙ (get_or-set_other (row_of table one) session s (min number (slice_index (row_of table one) session)) 0 other
          ∙ w.kept one s low (λ _ is. other is)))
      kept_at k s l apart (inr other) is =
          ap (λ row. slice_index row s) (other_row k other) ∙ w.kept k s l (λ there. apart (still_taken key_indices i inside k there))

-- ---- one more place
-- a next writer after one place is one after each place up to its own
from_place : (h : History) (order x : List ℕ) (session b place other : ℕ) → (w : IsNextWriter h order x session place b) → other ≤ w.index
    → IsNextWriter h order x session other b
from_place h order x session b place other w behind =
    record { committed = w.committed; below = w.below; owned = w.owned; writes = w.writes; index = w.index; behind = behind; inside = w.inside; here = w.here }

module _ (h : History) (order : List ℕ) (from place : ℕ) (inside : place < length order) where
  still_next : (x : List ℕ) (session b : ℕ) → IsNextWriter h order x session (place + 1) b → IsNextWriter h order x session place b
  still_next x session b w = from_place h order x session b (place + 1) place w (omega (arith, w.behind))

  -- a next writer was one already, or is at the place
  next_or_here : (x : List ℕ) (session b : ℕ) → IsNextWriter h order x session place b → IsNextWriter h order x session (place + 1) b ⊎ (get_or order place 0 ≡ b)
  next_or_here x session b w = go (cases_eq w.index place)
    where
      go : (w.index ≡ place) ⊎ (w.index ≢ place) → IsNextWriter h order x session (place + 1) b ⊎ (get_or order place 0 ≡ b)
      go (inl same) = inr (ap (λ i. get_or order i 0) (sym same) ∙ w.here)
      go (inr apart) = inl (from_place h order x session b place (place + 1) w (omega (arith, w.behind, apart)))

  -- the transaction at the place is of no session of the block
  pub next_outside : (table : List (List ℕ)) → ((session : ℕ) → session < WIDE → 0 < get_or order place 0 → owner h (get_or order place 0) ≢ from + session)
      → AreNextWriters h order from (place + 1) table → AreNextWriters h order from place table
  next_outside table apart w = record {
    long = w.long;
    wide = w.wide;
    each = λ k session l m.
        least_same (IsNextWriter h order (key_at h k) (from + session) (place + 1)) (IsNextWriter h order (key_at h k) (from + session) place)
        (slice_index (row_of table k) session) (λ b is. still_next (key_at h k) (from + session) b is)
        (λ b is. go k session m b is (next_or_here (key_at h k) (from + session) b is)) (w.each k session l m);
  }
    where
      go : (k session : ℕ) → session < WIDE → (b : ℕ) → IsNextWriter h order (key_at h k) (from + session) place b
          → IsNextWriter h order (key_at h k) (from + session) (place + 1) b ⊎ (get_or order place 0 ≡ b)
          → IsNextWriter h order (key_at h k) (from + session) (place + 1) b
      go k session m b is (inl next) = next
      go k session m b is (inr same) = absurd (apart session m (omega (arith, is.committed, same)) (ap (owner h) same ∙ is.owned))

  -- the transaction there is of the block, and lowers the keys that it writes
  module _ (key_indices : List ℕ) (named : map (key_at h) key_indices ≡ (entry_at h (get_or order place 0)).writes)
      (within : All (λ key_index. key_index < length (keys h)) key_indices) (session : ℕ) (narrow : session < WIDE) (some : 0 < get_or order place 0)
      (below : get_or order place 0 < count h) (owned : owner h (get_or order place 0) ≡ from + session) where
    abbrev pub a : ℕ
    a = get_or order place 0

    -- whether it writes a key
    by_name : (k : ℕ) → k < length (keys h) → has_name (entry_at h a).writes (key_at h k) ≡ list_any (λ j. j == k) key_indices
    by_name k l = rw (← named) (has_name-indices (keys h) (keys_sorted h) key_indices k within l)

    it_writes : (k : ℕ) → k < length (keys h) → Contains key_indices k → writes h a (key_at h k) ≡ true
    it_writes k l is = or_right (a == 0) (has_name (entry_at h a).writes (key_at h k)) (by_name k l ∙ number_found key_indices k is)

    what_it_writes : (k : ℕ) → k < length (keys h) → writes h a (key_at h k) ≡ true → Contains key_indices k
    what_it_writes k l is = go (or_cases (a == 0) (has_name (entry_at h a).writes (key_at h k)) is)
      where
        go : ((a == 0) ≡ true) ⊎ (has_name (entry_at h a).writes (key_at h k) ≡ true) → Contains key_indices k
        go (inl e) = absurd (omega (arith, eqb-true a 0 e, some))
        go (inr e) = found_number key_indices k (sym (by_name k l) ∙ e)

    pub next_here : (old new : List (List ℕ)) → AreLowered key_indices session a old new → AreNextWriters h order from (place + 1) old
        → AreNextWriters h order from place new
    next_here old new w next = record {
      long = w.long ∙ next.long;
      wide = λ k l. w.wide k (omega (arith, l, next.long)) ∙ next.wide k l;
      each = λ k s l m. go k s l m (cases_eq s session) (known_in key_indices k);
    }
      where
        Next : ℕ → ℕ → ℕ → Type 0
        Next k s b = IsNextWriter h order (key_at h k) (from + s) (place + 1) b

        Now : ℕ → ℕ → ℕ → Type 0
        Now k s b = IsNextWriter h order (key_at h k) (from + s) place b

        kept : (k s : ℕ) → k < length (keys h) → s < WIDE → (Contains key_indices k → s ≡ session → ⊥) → IsLeastOf (Now k s) (slice_index (row_of new k) s)
        kept k s l m apart =
            subst (IsLeastOf (Now k s)) (sym (w.kept k s (omega (arith, l, next.long)) apart))
            (least_same (Next k s) (Now k s) (slice_index (row_of old k) s) (λ b is. still_next (key_at h k) (from + s) b is)
            (λ b is. by b is (next_or_here (key_at h k) (from + s) b is)) (next.each k s l m))
          where
            by : (b : ℕ) → Now k s b → Next k s b ⊎ (a ≡ b) → Next k s b
            by b is (inl before) = before
            by b is (inr same) =
                let mine : owner h a ≡ from + s = ap (owner h) same ∙ is.owned in
                let wrote : writes h a (key_at h k) ≡ true = subst (λ (z : ℕ). writes h z (key_at h k) ≡ true) (sym same) is.writes in
                absurd (apart (what_it_writes k l wrote) (omega (arith, owned, mine)))

        go : (k s : ℕ) → k < length (keys h) → s < WIDE → (s ≡ session) ⊎ (s ≢ session) → Contains key_indices k ⊎ (Contains key_indices k → ⊥)
            → IsLeastOf (Now k s) (slice_index (row_of new k) s)
        go k s l m (inr apart) is = kept k s l m (λ _ same. apart same)
        go k s l m (inl same) (inr apart) = kept k s l m (λ is _. apart is)
        go k s l m (inl same) (inl is) =
            let value : slice_index (row_of new k) s ≡ min a (slice_index (row_of old k) s)
            = rw same (w.here k (omega (arith, l, next.long)) is) in
            subst (IsLeastOf (Now k s)) (sym value)
            (least_lower (Next k s) (Now k s) (slice_index (row_of old k) s) a (λ b before. still_next (key_at h k) (from + s) b before)
            (record {
              committed = some;
              below = below;
              owned = rw same owned;
              writes = it_writes k l is;
              index = place;
              behind = omega arith;
              inside = inside;
              here = refl;
            }) (λ b now. by b (next_or_here (key_at h k) (from + s) b now)) (next.each k s l m))
          where
            by : (b : ℕ) → Next k s b ⊎ (a ≡ b) → Next k s b ⊎ (b ≡ a)
            by b (inl before) = inl before
            by b (inr e) = inr (sym e)

-- ---- none yet
pub next_none : (h : History) (order : List ℕ) (from place keys_count : ℕ) → keys_count ≡ length (keys h) → length order ≤ place
    → AreNextWriters h order from place (replicate keys_count (replicate WIDE NONE))
next_none h order from place keys_count is all = record {
  long = length-replicate keys_count (replicate WIDE NONE) ∙ is;
  wide = λ k l. ap length (row k l) ∙ length-replicate WIDE NONE;
  each = λ k s l m.
      subst (IsLeastOf (IsNextWriter h order (key_at h k) (from + s) place)) (sym (ap (λ r. slice_index r s) (row k l) ∙ get_or-replicate WIDE s NONE 0 m))
      (least_none (IsNextWriter h order (key_at h k) (from + s) place) (λ b w. absurd (omega (arith, w.behind, w.inside, all))));
}
  where
    row : (k : ℕ) → k < length (keys h) → row_of (replicate keys_count (replicate WIDE NONE)) k ≡ replicate WIDE NONE
    row k l = get_or-replicate keys_count k (replicate WIDE NONE) [] (omega (arith, l, is))
