-- Marks where lanes are.
use Rattle.std.proofs.Common.{◌≡◌, ◌≢◌, ◌<◌, ◌+◌, ◌==◌, ◌⊎◌, ◌↔◌, inl, inr, ℕ, true, List, map, length, get_or, set, take, replicate, refl, sym, ap, subst, ◌∙◌, arith}
use Rattle.std.specs.List.{All, Contains, list_any}
use Rattle.std.proofs.lemmas.Bool.{cases_eq, eqb-true, or_cases, or_right}
use Rattle.std.proofs.lemmas.List.{get_or-set_same, get_or-set_other, get_or-replicate, length-replicate}
use Rattle.tcc_bits.proofs.Lists.{one_of_taken, still_taken, last_taken, nothing_in}
use Rattle.tcc_txn.proofs.Lists.{found_number, number_found}
use Rattle.tcc_reads.specs.History.{History, entry_at}
use Rattle.tcc_graph.specs.Keys.{keys, key_at, has_name, writes}
use Rattle.tcc_graph.proofs.IndexedLemmas.{has_name-indices, one_index}
use Rattle.tcc_graph.proofs.SortedKeys.{keys_sorted}
use Rattle.tcc_least.proofs.ReadLemmas.{AreReadsAt}
use Rattle.tcc_lanes.specs.declared.words.TheConstants.{LANES}
use Rattle.tcc_lanes.specs.private.Marks.{HasLane, IsAt, AreMarksOf, AreWriterMarks}
use Rattle.tcc_lanes.proofs.WordLemmas.{none_has}

-- ---- one more mark
pub marked_at : (marks : List ℕ) (index lane word : ℕ) → index < length marks
    → ((i : ℕ) → i < LANES → HasLane word i ↔ (HasLane (get_or marks index 0) i ⊎ (i ≡ lane)))
    → (v i : ℕ) → i < LANES → IsAt (set marks index word) v i ↔ (IsAt marks v i ⊎ ((v ≡ index) × (i ≡ lane)))
marked_at marks index lane word inside with_lane v i l = go (cases_eq v index)
  where
    go : (v ≡ index) ⊎ (v ≢ index) → IsAt (set marks index word) v i ↔ (IsAt marks v i ⊎ ((v ≡ index) × (i ≡ lane)))
    go (inl same) = rw (same, get_or-set_same marks index word 0 inside) ((λ has. there ((with_lane i l).0 has)), λ w. (with_lane i l).1 (back w))
      where
        there : HasLane (get_or marks index 0) i ⊎ (i ≡ lane) → IsAt marks index i ⊎ ((index ≡ index) × (i ≡ lane))
        there (inl old) = inl old
        there (inr new) = inr (refl, new)

        back : IsAt marks index i ⊎ ((index ≡ index) × (i ≡ lane)) → HasLane (get_or marks index 0) i ⊎ (i ≡ lane)
        back (inl old) = inl old
        back (inr new) = inr new.1
    go (inr other) = rw (get_or-set_other marks index v word 0 other) ((λ at. inl at), λ w. back w)
      where
        back : IsAt marks v i ⊎ ((v ≡ index) × (i ≡ lane)) → IsAt marks v i
        back (inl at) = at
        back (inr here) = absurd (other here.0)

-- ---- a lane at each of some indices
abbrev pub AreMarkedIn : List ℕ → ℕ → List ℕ → ℕ → List ℕ → Type 0
AreMarkedIn indices lane old end new =
    (length new ≡ length old)
    × ((v i : ℕ) → v < length old → i < LANES → IsAt new v i ↔ (IsAt old v i ⊎ (Contains (take end indices) v × (i ≡ lane))))

pub marked_none : (indices : List ℕ) (lane : ℕ) (old : List ℕ) → AreMarkedIn indices lane old 0 old
marked_none indices lane old = (refl, λ v i l m. ((λ at. inl at), λ w. go v i w))
  where
    go : (v i : ℕ) → IsAt old v i ⊎ (Contains (take 0 indices) v × (i ≡ lane)) → IsAt old v i
    go v i (inl at) = at
    go v i (inr w) = absurd (nothing_in v w.0)

module _ (indices : List ℕ) (lane : ℕ) (old mid new : List ℕ) (k : ℕ) (inside : k < length indices) where
  pub marked_more : AreMarkedIn indices lane old k mid → length new ≡ length mid
      → ((v i : ℕ) → v < length mid → i < LANES → IsAt new v i ↔ (IsAt mid v i ⊎ ((v ≡ get_or indices k 0) × (i ≡ lane))))
      → AreMarkedIn indices lane old (k + 1) new
  marked_more w same each = (
    same ∙ w.0,
    λ v i l m. ((λ at. there v i l m ((each v i (omega (arith, l, w.0)) m).0 at)), λ is. (each v i (omega (arith, l, w.0)) m).1 (back v i l m is)),
  )
    where
      there : (v i : ℕ) → v < length old → i < LANES → IsAt mid v i ⊎ ((v ≡ get_or indices k 0) × (i ≡ lane))
          → IsAt old v i ⊎ (Contains (take (k + 1) indices) v × (i ≡ lane))
      there v i l m (inr (here, one)) = inr (rw here (last_taken indices k inside), one)
      there v i l m (inl at) = by ((w.1 v i l m).0 at)
        where
          by : IsAt old v i ⊎ (Contains (take k indices) v × (i ≡ lane)) → IsAt old v i ⊎ (Contains (take (k + 1) indices) v × (i ≡ lane))
          by (inl before) = inl before
          by (inr (listed, one)) = inr (still_taken indices k inside v listed, one)

      back : (v i : ℕ) → v < length old → i < LANES → IsAt old v i ⊎ (Contains (take (k + 1) indices) v × (i ≡ lane))
          → IsAt mid v i ⊎ ((v ≡ get_or indices k 0) × (i ≡ lane))
      back v i l m (inl before) = inl ((w.1 v i l m).1 (inl before))
      back v i l m (inr (listed, one)) = by (one_of_taken indices k inside v listed)
        where
          by : Contains (take k indices) v ⊎ (get_or indices k 0 ≡ v) → IsAt mid v i ⊎ ((v ≡ get_or indices k 0) × (i ≡ lane))
          by (inl early) = inl ((w.1 v i l m).1 (inr (early, one)))
          by (inr last) = inr (sym last, one)

-- ---- each lane at its index
pub no_marks : (count : ℕ) (indices : List ℕ) → AreMarksOf count indices 0 (replicate count 0)
no_marks count indices = record {
  long = length-replicate {A = ℕ} count 0;
  each = λ v i l m. (
    (λ at. absurd (none_has i (subst (λ (w : ℕ). HasLane w i) (get_or-replicate {A = ℕ} count v 0 0 l) at))),
    λ w. absurd (omega (arith, w.0)),
  );
}

pub more_marks : (count : ℕ) (indices : List ℕ) (k : ℕ) (old new : List ℕ) → AreMarksOf count indices k old → length new ≡ length old
    → ((v i : ℕ) → v < length old → i < LANES → IsAt new v i ↔ (IsAt old v i ⊎ ((v ≡ get_or indices k 0) × (i ≡ k))))
    → AreMarksOf count indices (k + 1) new
more_marks count indices k old new w same each = record { long = same ∙ w.long; each = λ v i l m. (there v i l m, back v i l m) }
  where
    there : (v i : ℕ) → v < count → i < LANES → IsAt new v i → (i < k + 1) × (get_or indices i 0 ≡ v)
    there v i l m at = by ((each v i (omega (arith, l, w.long)) m).0 at)
      where
        by : IsAt old v i ⊎ ((v ≡ get_or indices k 0) × (i ≡ k)) → (i < k + 1) × (get_or indices i 0 ≡ v)
        by (inl before) = let is = (w.each v i l m).0 before in (omega (arith, is.0), is.1)
        by (inr (here, one)) = (omega (arith, one), ap (λ n. get_or indices n 0) one ∙ sym here)

    back : (v i : ℕ) → v < count → i < LANES → (i < k + 1) × (get_or indices i 0 ≡ v) → IsAt new v i
    back v i l m (less, is) = (each v i (omega (arith, l, w.long)) m).1 (by (cases_eq i k))
      where
        by : (i ≡ k) ⊎ (i ≢ k) → IsAt old v i ⊎ ((v ≡ get_or indices k 0) × (i ≡ k))
        by (inl same_lane) = inr (sym is ∙ ap (λ n. get_or indices n 0) same_lane, same_lane)
        by (inr other) = inl ((w.each v i l m).1 (omega (arith, less, other), is))

-- ---- writers
-- the keys that a transaction writes, by their indices
pub written_by : (h : History) (b : ℕ) (key_indices : List ℕ) → map (key_at h) key_indices ≡ (entry_at h b).writes
    → All (λ key_index. key_index < length (keys h)) key_indices → 0 < b → (k : ℕ) → k < length (keys h)
    → Contains key_indices k ↔ (writes h b (key_at h k) ≡ true)
written_by h b key_indices named within some k l = ((λ is. or_right (b == 0) (has_name (entry_at h b).writes (key_at h k)) (by_name ∙ number_found key_indices k is)), back)
  where
    by_name : has_name (entry_at h b).writes (key_at h k) ≡ list_any (λ j. j == k) key_indices
    by_name = rw (← named) (has_name-indices (keys h) (keys_sorted h) key_indices k within l)

    back : writes h b (key_at h k) ≡ true → Contains key_indices k
    back is = go (or_cases (b == 0) (has_name (entry_at h b).writes (key_at h k)) is)
      where
        go : ((b == 0) ≡ true) ⊎ (has_name (entry_at h b).writes (key_at h k) ≡ true) → Contains key_indices k
        go (inl e) = absurd (omega (arith, eqb-true b 0 e, some))
        go (inr e) = found_number key_indices k (sym by_name ∙ e)

-- ---- each lane at the keys that its transaction writes
pub no_writers : (h : History) (writers : List ℕ) → AreWriterMarks h writers 0 (replicate (length (keys h)) 0)
no_writers h writers = record {
  long = length-replicate {A = ℕ} (length (keys h)) 0;
  each = λ k i l m. (
    (λ at. absurd (none_has i (subst (λ (w : ℕ). HasLane w i) (get_or-replicate {A = ℕ} (length (keys h)) k 0 0 l) at))),
    λ w. absurd (omega (arith, w.0)),
  );
}

pub more_writers : (h : History) (writers : List ℕ) (n : ℕ) (key_indices old new : List ℕ)
    → ((k : ℕ) → k < length (keys h) → Contains key_indices k ↔ (writes h (get_or writers n 0) (key_at h k) ≡ true)) → AreWriterMarks h writers n old
    → length new ≡ length old
    → ((k i : ℕ) → k < length old → i < LANES → IsAt new k i ↔ (IsAt old k i ⊎ (Contains key_indices k × (i ≡ n))))
    → AreWriterMarks h writers (n + 1) new
more_writers h writers n key_indices old new written w same each = record { long = same ∙ w.long; each = λ k i l m. (there k i l m, back k i l m) }
  where
    there : (k i : ℕ) → k < length (keys h) → i < LANES → IsAt new k i → (i < n + 1) × (writes h (get_or writers i 0) (key_at h k) ≡ true)
    there k i l m at = by ((each k i (omega (arith, l, w.long)) m).0 at)
      where
        by : IsAt old k i ⊎ (Contains key_indices k × (i ≡ n)) → (i < n + 1) × (writes h (get_or writers i 0) (key_at h k) ≡ true)
        by (inl before) = let is = (w.each k i l m).0 before in (omega (arith, is.0), is.1)
        by (inr (here, one)) =
            (omega (arith, one), subst (λ (j : ℕ). writes h (get_or writers j 0) (key_at h k) ≡ true) (sym one) ((written k l).0 here))

    back : (k i : ℕ) → k < length (keys h) → i < LANES → (i < n + 1) × (writes h (get_or writers i 0) (key_at h k) ≡ true) → IsAt new k i
    back k i l m (less, is) = (each k i (omega (arith, l, w.long)) m).1 (by (cases_eq i n))
      where
        by : (i ≡ n) ⊎ (i ≢ n) → IsAt old k i ⊎ (Contains key_indices k × (i ≡ n))
        by (inl one) = inr ((written k l).1 (subst (λ (j : ℕ). writes h (get_or writers j 0) (key_at h k) ≡ true) one is), one)
        by (inr other) = inl ((w.each k i l m).1 (omega (arith, less, other), is))

-- ---- a key that is read has one index
pub key_of_read : (h : History) (c : ℕ) (reads : List (ℕ × ℕ)) → AreReadsAt h c reads → (m k : ℕ) → m < length reads → k < length (keys h)
    → key_at h (get_or reads m (0, 0)).0 ≡ key_at h k → (get_or reads m (0, 0)).0 ≡ k
key_of_read h c reads are m k inside low same = one_index (keys h) (keys_sorted h) (get_or reads m (0, 0)).0 k (are.within m (0, 0) inside).0 low same
