-- Marks between two numbers, suffixes of sessions, and marks of those that read.
use Rattle.std.proofs.Common.{◌≡◌, ◌≢◌, ◌<◌, ◌≤◌, ◌+◌, ◌-◌, ◌/◌, ◌↔◌, ◌⊎◌, inl, inr, ℕ, Bool, true}
use Rattle.std.proofs.Common.{false, List, [], length, length-set, get_or, set, slice_index, refl, sym, ◌∙◌, ap, arith}
use Rattle.std.proofs.Common.{subst}
use Rattle.std.specs.Prelude.{zip}
use Rattle.std.specs.List.{All, Contains}
use Rattle.std.proofs.lemmas.Bool.{cases_eq, false≢true}
use Rattle.std.proofs.lemmas.List.{get_or-set_same, get_or-set_other, get_or_default}
use Rattle.std.proofs.lemmas.List.Elements.{All-contains_itself}
use Rattle.tcc_reads.specs.History.{History, count}
use Rattle.tcc_graph.specs.Relations.{IsReadsPair, IsCausalPair, causal_pair}
use Rattle.tcc_graph.proofs.Pairs.{pair_kinds, pair_from_kinds, pair_below}
use Rattle.tcc_bits.specs.Bits.{is_marked, words_for, IsFresh}
use Rattle.tcc_near.specs.private.Breadth.{IsSessionEnd, IsPairsFrom, AreSuffixes}
use Rattle.tcc_bits.proofs.Lists.{zip_at, zip-long, zip_has}
use Rattle.tcc_bits.proofs.MarkLemmas.{AddsBetween}

-- ---- suffixes
-- no suffix yet
pub suffixes_none : (suffixes words : List ℕ) → ((last : ℕ) → last < length suffixes → last < slice_index suffixes last) → AreSuffixes suffixes words
suffixes_none suffixes words none last b inside from to = absurd (omega (arith, none last inside))

-- more marks
pub suffixes_kept : (suffixes old new : List ℕ) → AreSuffixes suffixes old → ((b : ℕ) → is_marked old b ≡ true → is_marked new b ≡ true)
    → AreSuffixes suffixes new
suffixes_kept suffixes old new are kept last b inside from to = kept b (are last b inside from to)

-- what is marked up to the end of a session is its suffix
pub suffixes_set : (suffixes old new : List ℕ) (first end : ℕ) → 0 < end → end ≤ length suffixes → AreSuffixes suffixes old → AddsBetween old new first end
    → AreSuffixes (set suffixes (end - 1) first) new
suffixes_set suffixes old new first end some within are is last b inside from to = go (cases_eq last (end - 1))
  where
    long : length (set suffixes (end - 1) first) ≡ length suffixes
    long = length-set suffixes (end - 1) first

    go : (last ≡ end - 1) ⊎ (last ≢ end - 1) → is_marked new b ≡ true
    go (inl same) =
        let at : slice_index (set suffixes (end - 1) first) last ≡ first = rw same (get_or-set_same suffixes (end - 1) first 0 (omega (arith, some, within))) in
        (is b).1 (inr (omega (arith, at, from), omega (arith, same, to, some)))
    go (inr other) =
        let at : slice_index (set suffixes (end - 1) first) last ≡ slice_index suffixes last = get_or-set_other suffixes (end - 1) last first 0 other in
        (is b).1 (inl (are last b (omega (arith, long, inside)) (omega (arith, at, from)) to))

-- ---- those that read
module _ (h : History) (a : ℕ) (rs : List ℕ) (xs : List (List ℕ)) (long : length rs ≡ length xs)
    (each : (c : ℕ) (x : List ℕ) → Contains (zip rs xs) (c, x) ↔ IsReadsPair h a c x) where
  pub reading_at : (k : ℕ) → k < length rs → IsReadsPair h a (get_or rs k 0) (get_or xs k [])
  reading_at k l = (each (get_or rs k 0) (get_or xs k [])).0 (zip_has rs xs k [] long l)

  -- a reader is one of the list
  reader_in : (c : ℕ) (x : List ℕ) → IsReadsPair h a c x → Contains rs c
  reader_in c x pair = go ((each c x).1 pair)
    where
      go : Contains (zip rs xs) (c, x) → Contains rs c
      go (k, l, e) =
          let inside : k < length rs = omega (arith, zip-long rs xs long) in
          (k, inside, ap (λ p. p.0) (sym (zip_at rs xs k c x long inside) ∙ e))

  reader_of : (c : ℕ) → Contains rs c → (x : List ℕ) × IsReadsPair h a c x
  reader_of c (k, l, e) = (get_or xs k [], subst (λ (z : ℕ). IsReadsPair h a z (get_or xs k [])) (sym (get_or_default rs k c 0 l) ∙ e) (reading_at k l))

  pub readings_fit : (words : List ℕ) → length words ≡ words_for (count h) → All (λ c. c / 64 < length words) rs
  readings_fit words wide = λ k d l.
      let at = reading_at k l in
      let same : get_or rs k d ≡ get_or rs k 0 = get_or_default rs k d 0 l in
      omega (arith, at.1, same, wide)

  -- session pairs and the other readers make the causal pairs
  pub pairs_apart : (later marks others : List ℕ) (end : ℕ) → IsSessionEnd h a end → ((b : ℕ) → (is_marked later b ≡ true) ↔ ((a + 1 ≤ b) × (b < end)))
      → ((b : ℕ) → (is_marked marks b ≡ true) ↔ Contains rs b) → IsFresh later marks others → IsPairsFrom h a end others
  pairs_apart later marks others end is session readers fresh b = (λ p. by (pair_kinds h a b p), back)
    where
      apart : (m : Bool) → is_marked later b ≡ m → Contains rs b → ((a + 1 ≤ b) × (b < end)) ⊎ Contains others b
      apart true m c = inl ((session b).0 m)
      apart false m c = inr ((fresh b).1 ((readers b).1 c, m))

      by : IsCausalPair h a b → ((a + 1 ≤ b) × (b < end)) ⊎ Contains others b
      by (inl p) = inl ((is.pairs b).0 p)
      by (inr (x, pair)) = apart (is_marked later b) refl (reader_in b x pair)

      back : ((a + 1 ≤ b) × (b < end)) ⊎ Contains others b → causal_pair h a b ≡ true
      back (inl w) = pair_from_kinds h a b (inl ((is.pairs b).1 w))
      back (inr c) = pair_from_kinds h a b (inr (reader_of b ((readers b).0 ((fresh b).0 c).0)))

module _ (h : History) (a end : ℕ) (rs : List ℕ) (pairs : IsPairsFrom h a end rs) where
  pub readers_fit : (words : List ℕ) → length words ≡ words_for (count h) → All (λ c. c / 64 < length words) rs
  readers_fit words wide = λ k d l.
      let b = get_or rs k d in
      let low = (pair_below h a b (pair_kinds h a b ((pairs b).1 (inr (All-contains_itself rs k d l))))).1 in
      omega (arith, low, wide)

  pub pairs_taken : (old mid new : List ℕ) → AddsBetween old mid (a + 1) end → ((b : ℕ) → (is_marked new b ≡ true) ↔ ((is_marked mid b ≡ true) ⊎ Contains rs b))
      → (b : ℕ) → (is_marked new b ≡ true) ↔ ((is_marked old b ≡ true) ⊎ (causal_pair h a b ≡ true))
  pairs_taken old mid new later now b = (λ m. onward ((now b).0 m), back)
    where
      first_part : (is_marked old b ≡ true) ⊎ ((a + 1 ≤ b) × (b < end)) → (is_marked old b ≡ true) ⊎ (causal_pair h a b ≡ true)
      first_part (inl m) = inl m
      first_part (inr w) = inr ((pairs b).1 (inl w))

      onward : (is_marked mid b ≡ true) ⊎ Contains rs b → (is_marked old b ≡ true) ⊎ (causal_pair h a b ≡ true)
      onward (inl m) = first_part ((later b).0 m)
      onward (inr c) = inr ((pairs b).1 (inr c))

      by : ((a + 1 ≤ b) × (b < end)) ⊎ Contains rs b → is_marked new b ≡ true
      by (inl w) = (now b).1 (inl ((later b).1 (inr w)))
      by (inr c) = (now b).1 (inr c)

      back : (is_marked old b ≡ true) ⊎ (causal_pair h a b ≡ true) → is_marked new b ≡ true
      back (inl m) = (now b).1 (inl ((later b).1 (inl m)))
      back (inr p) = by ((pairs b).0 p)

-- with no marks before, those of the pairs
pub pairs_alone : (h : History) (a : ℕ) (old new : List ℕ) → ((b : ℕ) → is_marked old b ≡ false)
    → ((b : ℕ) → (is_marked new b ≡ true) ↔ ((is_marked old b ≡ true) ⊎ (causal_pair h a b ≡ true)))
    → (b : ℕ) → (is_marked new b ≡ true) ↔ (causal_pair h a b ≡ true)
pairs_alone h a old new none is b = (λ m. go ((is b).0 m), λ p. (is b).1 (inr p))
  where
    go : (is_marked old b ≡ true) ⊎ (causal_pair h a b ≡ true) → causal_pair h a b ≡ true
    go (inl m) = absurd (false≢true (sym (none b) ∙ m))
    go (inr p) = p

pub pairs_inside : (h : History) (a : ℕ) (new : List ℕ) → ((b : ℕ) → (is_marked new b ≡ true) ↔ (causal_pair h a b ≡ true))
    → (b : ℕ) → is_marked new b ≡ true → b < count h
pairs_inside h a new is b m = (pair_below h a b (pair_kinds h a b ((is b).0 m))).1
