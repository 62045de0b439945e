-- Rows as loops work them out: one number more, one parent more, one row more that is raised.
use Rattle.std.proofs.Common.{ℕ, zero, suc, ◌+◌, ◌≡◌, ◌≢◌, ◌<◌, ◌≤◌, ◌⊎◌, inl, inr, List, [], ◌∷◌, ◌++◌, length, get_or, set, slice_index, take, refl, sym, ap, ◌∙◌, arith}
use Rattle.std.specs.Prelude.{max}
use Rattle.std.specs.List.{Contains}
use Rattle.std.proofs.lemmas.Bool.{cases_lt, cases_eq, cases_order}
use Rattle.std.proofs.lemmas.List.{get_or_default, get_or-set_same, get_or-set_other, length-set}
use Rattle.tcc_bits.proofs.Lists.{nothing_in, one_of_taken, still_taken, last_taken}
use Rattle.tcc_graph.specs.Tables.{row_of}
use Rattle.tcc_watch.specs.declared.at.At.{At}
use Rattle.tcc_watch.specs.private.Rows.{last_in, GoesTo, IsLastOver, IsRaisedRow, AreRising, IsFirstWith, IsRaisedBetween, AreRaised}

-- a 0 at the end changes nothing
pub push_zero : (xs : List ℕ) (k : ℕ) → slice_index (xs ++ 0 ∷ []) k ≡ slice_index xs k
push_zero [] zero = refl
push_zero [] (suc k) = refl
push_zero (x ∷ xs) zero = refl
push_zero (x ∷ xs) (suc k) = push_zero xs k

-- ---- over the rows of some transactions

pub over_none : (rows : List (List ℕ)) (session : ℕ) → IsLastOver rows [] session 0
over_none rows session = record { attained = inl refl; greatest = λ p there. absurd (nothing_in p there) }

module _ (rows : List (List ℕ)) (parents : List ℕ) (i : ℕ) (within : i < length parents) (session last new : ℕ)
    (raised : new ≡ max (last_in rows (get_or parents i 0) session) last) (before : IsLastOver rows (take i parents) session last) where
  attained : (last ≡ 0) ⊎ ((p : ℕ) × Contains (take i parents) p × (last ≡ last_in rows p session))
      → (last_in rows (get_or parents i 0) session < last) ⊎ (last ≤ last_in rows (get_or parents i 0) session)
      → (new ≡ 0) ⊎ ((p : ℕ) × Contains (take (i + 1) parents) p × (new ≡ last_in rows p session))
  attained w (inr more) = inr (get_or parents i 0, last_taken parents i within, omega (arith, raised, more))
  attained (inl none) (inl less) = absurd (omega (arith, none, less))
  attained (inr (p, there, is)) (inl less) = inr (p, still_taken parents i within p there, omega (arith, raised, less, is))

  greatest : (p : ℕ) → Contains (take i parents) p ⊎ (get_or parents i 0 ≡ p) → last_in rows p session ≤ new
  greatest p (inl there) = omega (arith, before.greatest p there, raised)
  greatest p (inr same) = let is = ap (λ k. last_in rows k session) same in omega (arith, raised, is)

  pub over_more : IsLastOver rows (take (i + 1) parents) session new
  over_more = record {
    attained = attained before.attained (cases_lt (last_in rows (get_or parents i 0) session) last);
    greatest = λ p there. greatest p (one_of_taken parents i within p there);
  }

-- ---- raising the rows of some transactions that rise

-- ascending numbers differ
pub apart_of : (numbers : List ℕ) → ((i k : ℕ) → i < k → k < length numbers → slice_index numbers i < slice_index numbers k) → (i k : ℕ)
    → i < length numbers → k < length numbers → slice_index numbers i ≡ slice_index numbers k → i ≡ k
apart_of numbers ascending i k at_i at_k same = go (cases_order i k)
  where
    go : (i ≡ k) ⊎ ((i < k) ⊎ (k < i)) → i ≡ k
    go (inl is) = is
    go (inr (inl less)) = let lower = ascending i k less at_k in absurd (omega (arith, lower, same))
    go (inr (inr less)) = let lower = ascending k i less at_i in absurd (omega (arith, lower, same))

pub between_none : (row : List ℕ) (rows : List (List ℕ)) (numbers : List ℕ) (first : ℕ) → IsRaisedBetween row rows rows numbers first first
between_none row rows numbers first = record {
  long = refl;
  raised = λ i session from to within. absurd (omega (arith, from, to));
  others = λ v apart. refl;
}

module _ (row : List ℕ) (old now : List (List ℕ)) (numbers : List ℕ) (first index : ℕ) (from : first ≤ index) (within : index < length numbers)
    (below : slice_index numbers index < length now)
    (ascending : (i k : ℕ) → i < k → k < length numbers → slice_index numbers i < slice_index numbers k) (new : List ℕ)
    (each : (session : ℕ) → slice_index new session ≡ max (slice_index row session) (last_in now (slice_index numbers index) session))
    (before : IsRaisedBetween row old now numbers first index) where
  abbrev v : ℕ
  v = slice_index numbers index

  here : row_of (set now v new) v ≡ new
  here = get_or-set_same now v new [] below

  elsewhere : (u : ℕ) → u ≢ v → row_of (set now v new) u ≡ row_of now u
  elsewhere u apart = get_or-set_other now v u new [] apart

  not_yet : row_of now v ≡ row_of old v
  not_yet = before.others v (λ i low high inside same. absurd (omega (arith, high, apart_of numbers ascending i index inside within same)))

  raised : (i session : ℕ) → first ≤ i → i < index + 1 → i < length numbers → (i ≡ index) ⊎ (i ≡ index → ⊥)
      → last_in (set now v new) (slice_index numbers i) session ≡ max (slice_index row session) (last_in old (slice_index numbers i) session)
  raised i session low high inside (inl same) =
      let at : slice_index numbers i ≡ v = ap (λ k. slice_index numbers k) same in
      let one = ap (λ (r : List ℕ). slice_index r session) here in
      let two = ap (λ (r : List ℕ). slice_index r session) not_yet in
      let moved = ap (λ k. last_in (set now v new) k session) at in
      let moved_old = ap (λ k. last_in old k session) at in
      omega (arith, one, two, moved, moved_old, each session)
  raised i session low high inside (inr apart) =
      let is = ap (λ (r : List ℕ). slice_index r session)
      (elsewhere (slice_index numbers i) (λ same. apart (apart_of numbers ascending i index inside within same))) in
      omega (arith, is, before.raised i session low (omega (arith, high, apart)) inside)

  pub between_more : IsRaisedBetween row old (set now v new) numbers first (index + 1)
  between_more = record {
    long = simp length-set before.long;
    raised = λ i session low high inside. raised i session low high inside (cases_eq i index);
    others = λ u apart. elsewhere u (λ same. apart index from (omega arith) within (sym same))
        ∙ before.others u (λ i low high inside same. apart i low (omega (arith, high)) inside same);
  }

-- where those from an index on go to b, it is enough to raise those before it from the first that goes to a
module _ (a b : At) (row : List ℕ) (old new : List (List ℕ)) (numbers : List ℕ) (first end : ℕ) (rising : AreRising old numbers)
    (with_a : IsFirstWith old numbers a first) (past : (i : ℕ) → end ≤ i → i < length numbers → GoesTo b (row_of old (slice_index numbers i)))
    (between : IsRaisedBetween row old new numbers first end) where
  same_row : (i : ℕ) → i < length numbers → (i < first) ⊎ (end ≤ i) → row_of new (slice_index numbers i) ≡ row_of old (slice_index numbers i)
  same_row i inside out = between.others (slice_index numbers i)
      (λ k low high within same. apart out k low high (apart_of numbers rising.ascending k i within inside same))
    where
      apart : (i < first) ⊎ (end ≤ i) → (k : ℕ) → first ≤ k → k < end → k ≡ i → ⊥
      apart (inl less) k low high same = absurd (omega (arith, less, low, same))
      apart (inr more) k low high same = absurd (omega (arith, more, high, same))

  each : (i : ℕ) → i < length numbers → (i < first) ⊎ (first ≤ i) → (i < end) ⊎ (end ≤ i)
      → IsRaisedRow a b row (row_of old (slice_index numbers i)) (row_of new (slice_index numbers i))
  each i inside (inl less) e = inl (same_row i inside (inl less), inl (with_a.before i less))
  each i inside (inr from) (inr more) = inl (same_row i inside (inr more), inr (past i more inside))
  each i inside (inr from) (inl to) = inr (with_a.from i from inside, λ session. between.raised i session from to inside)

  pub are_raised : AreRaised a b row old new numbers
  are_raised = record {
    long = between.long;
    each = λ i inside. each i inside (cases_lt i first) (cases_lt i end);
    others = λ v apart. between.others v (λ i low high inside same. apart (i, inside, get_or_default numbers i v 0 inside ∙ same));
  }

-- where one that isn't raised yet goes to b now, so do it and those after it before any is raised
pub all_past : (b : At) (row : List ℕ) (old now : List (List ℕ)) (numbers : List ℕ) (first index : ℕ) → AreRising old numbers → index < length numbers
    → IsRaisedBetween row old now numbers first index → GoesTo b (row_of now (slice_index numbers index)) → (i : ℕ) → index ≤ i → i < length numbers
    → GoesTo b (row_of old (slice_index numbers i))
all_past b row old now numbers first index rising within between goes i from inside =
    let not_yet : row_of now (slice_index numbers index) ≡ row_of old (slice_index numbers index)
    = between.others (slice_index numbers index)
    (λ k low high there same. absurd (omega (arith, high, apart_of numbers rising.ascending k index there within same))) in
    let same = ap (λ (r : List ℕ). slice_index r b.session) not_yet in
    omega (arith, goes, same, rising.further index i b.session from inside)
