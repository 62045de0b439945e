-- The first of the nearest readers, and of all keys the first with the nearest reader.
use Rattle.std.proofs.Common.{ℕ, ◌+◌, ◌<◌, ◌≤◌, ◌≡◌, ◌≢◌, ◌==◌, true, false, List, [], length, get_or}
use Rattle.std.proofs.Common.{take, Option, None, Some, MatchOption, refl, sym, ◌∙◌, arith, ⊎_elim}
use Rattle.std.proofs.Common.{bytes_eq}
use Rattle.std.specs.List.{All, Contains, list_any}
use Rattle.std.specs.Ordering.{nat_cmp}
use Rattle.std.specs.List.Sorted.{IsStrictlySortedBy}
use Rattle.std.specs.declared.cmp.Ordering.TheVariants.{Less, Equal, Greater}
use Rattle.std.proofs.lemmas.Bool.{false≢true}
use Rattle.std.proofs.lemmas.Cmp.{nat_list_cmp_total, tied_itself}
use Rattle.std.proofs.lemmas.List.{get_or-take, length-take-le, get_or_default}
use Rattle.std.proofs.lemmas.List.Kept.{IsStrictlySortedBy-filter}
use Rattle.std.proofs.lemmas.List.Elements.{All-filter, All-contains, filter_passes}
use Rattle.std.proofs.lemmas.List.Folds.{list_any_at}
use Rattle.std.proofs.lemmas.List.FromFn.{get_or-range_with_len, length-range_with_len}
use Rattle.std.proofs.lemmas.Map.Keys.{below_from_sorted, sorted_from_strictly_increasing, Less-from_sorted}
use Rattle.std.proofs.lemmas.Slice.Eq.{bytes_eq-Decides}
use Rattle.tcc_reads.specs.History.{History, count}
use Rattle.tcc_graph.specs.Relations.{reads_from, IsReadsPair}
use Rattle.tcc_graph.specs.Keys.{has_name, keys, numbers, writers, readers}
use Rattle.tcc_graph.specs.Links.{MayContradict}
use Rattle.tcc_reads.specs.Sources.{name_cmp}
use Rattle.tcc_derive.specs.private.Choices.{IsNearest, IsNearestReader, IsChoice}
use Rattle.tcc_derive.proofs.BucketLemmas.{Contains-taken, Contains-still, Contains-last}
use Rattle.tcc_graph.proofs.WriterLemmas.{numbers_below, number_in, writer_writes, writer_listed}
use Rattle.tcc_derive.proofs.KeyLemmas.{read_key}
use Rattle.tcc_near.specs.declared.walk_lengths.TheConstants.{NONE}
use Rattle.tcc_graph.proofs.NameLemmas.{has_name-contains}
use Rattle.tcc_txn.proofs.Lists.{in_filter, found_number, number_found}

-- ---- the nearest reader

abbrev pub IsBest : List ℕ → List ℕ → ℕ → Option ℕ → Type 0
IsBest readers steps least None = (least ≡ NONE) × ((d : ℕ) → Contains readers d → get_or steps d 0 ≡ NONE)
IsBest readers steps least (Some c) = (least ≡ get_or steps c 0) × IsNearest readers steps c

-- what comes before an index of an ascending list is below the item there
earlier_below : (readers : List ℕ) (i r c : ℕ) → IsStrictlySortedBy nat_cmp readers → i < length readers → r ≡ get_or readers i r
    → Contains (take i readers) c → c < r
earlier_below readers i r c sorted l is (j, m, e) =
    let low : j < i = omega (arith, length-take-le i readers) in
    let below : get_or readers j 0 < get_or readers i 0 = below_from_sorted readers j i 0 sorted low l in
    let here : c ≡ get_or readers j 0 = sym e ∙ get_or-take i readers j c low ∙ get_or_default readers j c 0 (omega arith) in
    let there : r ≡ get_or readers i 0 = is ∙ get_or_default readers i r 0 l in
    omega arith

module _ (readers steps : List ℕ) (i r : ℕ) (sorted : IsStrictlySortedBy nat_cmp readers) (within : i < length readers) (is : r ≡ get_or readers i r)
    (range : (d : ℕ) → get_or steps d 0 ≤ NONE) where
  bound : (least : ℕ) (best : Option ℕ) → IsBest (take i readers) steps least best
      → (least ≤ NONE) × ((d : ℕ) → Contains (take i readers) d → least ≤ get_or steps d 0)
  bound least None b = (omega (arith, b.0), λ d h. omega (arith, b.0, b.1 d h))
  bound least (Some c) b = (omega (arith, b.0, b.1.reached), λ d h. omega (arith, b.0, b.1.least d h))

  pub nearer : (least : ℕ) (best : Option ℕ) → IsBest (take i readers) steps least best → get_or steps r 0 < least
      → IsBest (take (i + 1) readers) steps (get_or steps r 0) (Some r)
  nearer least best b low = (
    refl,
    record {
      there = Contains-last readers i r within is;
      reached = omega (arith, (bound least best b).0);
      least =
          λ d h. ⊎_elim (λ before. omega (arith, (bound least best b).1 d before)) (λ same. rw same (omega arith)) (Contains-taken readers i r d within is h);
      first =
          λ d h e. ⊎_elim (λ before. absurd (omega (arith, (bound least best b).1 d before))) (λ same. rw same (omega arith))
          (Contains-taken readers i r d within is h);
    },
  )

  pub no_nearer : (least : ℕ) (best : Option ℕ) → IsBest (take i readers) steps least best → least ≤ get_or steps r 0
      → IsBest (take (i + 1) readers) steps least best
  no_nearer least None b high =
      (b.0, λ d h. ⊎_elim (λ before. b.1 d before) (λ same. rw (← same) (omega (arith, b.0, range r))) (Contains-taken readers i r d within is h))
  no_nearer least (Some c) b high = (
    b.0,
    record {
      there = Contains-still readers i r c within is b.1.there;
      reached = b.1.reached;
      least = λ d h. ⊎_elim (λ before. b.1.least d before) (λ same. rw (← same) (omega (arith, b.0))) (Contains-taken readers i r d within is h);
      first = λ d h e. ⊎_elim (λ before. b.1.first d before e)
          (λ same. rw (← same) (omega (arith, earlier_below readers i r c sorted within is b.1.there)))
          (Contains-taken readers i r d within is h);
    },
  )

pub nearest_of : (readers steps : List ℕ) (least : ℕ) (best : Option ℕ) → IsBest readers steps least best
    → MatchOption best ((d : ℕ) → Contains readers d → get_or steps d 0 ≡ NONE) (IsNearest readers steps)
nearest_of readers steps least None b = b.1
nearest_of readers steps least (Some c) b = b.1

-- ---- the readers of a key

numbers_sorted : (h : History) → IsStrictlySortedBy nat_cmp (numbers h)
numbers_sorted h = sorted_from_strictly_increasing (numbers h) (λ k l.
    let n = count h in
    let inside : k + 1 < n = omega (arith, length-range_with_len 0 n) in
    let here = get_or-range_with_len 0 n k 0 (omega arith) in
    let next = get_or-range_with_len 0 n (k + 1) 0 inside in
    omega arith)

pub readers_sorted : (h : History) (a : ℕ) (x : List ℕ) → IsStrictlySortedBy nat_cmp (readers h a x)
readers_sorted h a x = IsStrictlySortedBy-filter nat_cmp (λ b. has_name (reads_from h a b) x) (numbers h) (numbers_sorted h)

pub readers_below : (h : History) (a : ℕ) (x : List ℕ) → All (λ c. c < count h) (readers h a x)
readers_below h a x = All-filter (λ b. has_name (reads_from h a b) x) (λ c. c < count h) (numbers h) (numbers_below h)

pub reader_reads : (h : History) (a : ℕ) (x : List ℕ) (c : ℕ) → a < count h → Contains (readers h a x) c → IsReadsPair h a c x
reader_reads h a x c from there = (
  from,
  All-contains (λ d. d < count h) (readers h a x) c (readers_below h a x) there,
  has_name-contains (reads_from h a c) x (All-contains (λ d. has_name (reads_from h a d) x ≡ true) (readers h a x) c
      (filter_passes (λ d. has_name (reads_from h a d) x) (numbers h)) there),
)

pub reads_reader : (h : History) (a : ℕ) (x : List ℕ) (c : ℕ) → IsReadsPair h a c x → Contains (readers h a x) c
reads_reader h a x c (from, to, (k, l, e)) = in_filter (λ d. has_name (reads_from h a d) x) (numbers h) c (number_in h c to)
    (list_any_at (bytes_eq x) (reads_from h a c) k x l ((bytes_eq-Decides x (get_or (reads_from h a c) k x)).1 (sym e)))

-- b contradicts no read of a key that it does not write
pub writes_not : (h : History) (b a : ℕ) (x : List ℕ) (c : ℕ) → list_any (λ y. y == b) (writers h x) ≡ false → MayContradict h b a x c → ⊥
writes_not h b a x c none (other, pair, writer) = false≢true (sym none ∙ number_found (writers h x) b (writer_listed h x a c b pair writer))

pub nearest_reader_of : (h : History) (steps : List ℕ) (b a : ℕ) (x : List ℕ) (c : ℕ) → b ≢ a → a < count h → list_any (λ y. y == b) (writers h x) ≡ true
    → IsNearest (readers h a x) steps c → IsNearestReader h steps b a x c
nearest_reader_of h steps b a x c other to writes nearest = record {
  may = (other, reader_reads h a x c to nearest.there, writer_writes h x b (found_number (writers h x) b writes));
  reached = nearest.reached;
  least = λ d may. nearest.least d (reads_reader h a x d may.1);
  first = λ d may e. nearest.first d (reads_reader h a x d may.1) e;
}

-- ---- the key

-- the choice among these keys
pub record IsChoiceAmong (h : History) (steps : List ℕ) (b : ℕ) (a : ℕ) (among : List (List ℕ)) (x : List ℕ) (c : ℕ) : Type 0 where
  pub there : Contains among x
  pub nearest : IsNearestReader h steps b a x c
  pub least : (y : List ℕ) (d : ℕ) → Contains among y → MayContradict h b a y d → get_or steps c 0 ≤ get_or steps d 0
  pub first : (y : List ℕ) (d : ℕ) → Contains among y → MayContradict h b a y d → get_or steps d 0 ≡ get_or steps c 0 → name_cmp x y ≢ Greater

abbrev pub IsBestChoice : History → List ℕ → ℕ → ℕ → List (List ℕ) → ℕ → Option (List ℕ × ℕ) → Type 0
IsBestChoice h steps b a among least None = (least ≡ NONE) × ((y : List ℕ) (d : ℕ) → Contains among y → MayContradict h b a y d → get_or steps d 0 ≡ NONE)
IsBestChoice h steps b a among least (Some found) = (least ≡ get_or steps found.1 0) × IsChoiceAmong h steps b a among found.0 found.1

not_above_itself : (x : List ℕ) → name_cmp x x ≢ Greater
not_above_itself x e = let tie : name_cmp x x ≡ Equal = tied_itself nat_list_cmp_total x in cc

-- what comes before an index among the keys is before the key there
earlier_key : (ks : List (List ℕ)) (i : ℕ) (y x : List ℕ) → IsStrictlySortedBy name_cmp ks → i < length ks → y ≡ get_or ks i y → Contains (take i ks) x
    → name_cmp x y ≢ Greater
earlier_key ks i y x sorted l is (j, m, e) above =
    let low : j < i = omega (arith, length-take-le i ks) in
    let below : name_cmp (get_or ks j []) (get_or ks i []) ≡ Less = Less-from_sorted name_cmp ks j i [] sorted low l in
    let here : x ≡ get_or ks j [] = sym e ∙ get_or-take i ks j x low ∙ get_or_default ks j x [] (omega arith) in
    let there : y ≡ get_or ks i [] = is ∙ get_or_default ks i y [] l in
    let less : name_cmp x y ≡ Less = rw (here, there) below in
    cc

module _ (h : History) (steps : List ℕ) (b a : ℕ) (ks : List (List ℕ)) (i : ℕ) (y : List ℕ) (sorted : IsStrictlySortedBy name_cmp ks)
    (within : i < length ks) (is : y ≡ get_or ks i y) (range : (d : ℕ) → get_or steps d 0 ≤ NONE) where
  pub choice_bound : (least : ℕ) (best : Option (List ℕ × ℕ)) → IsBestChoice h steps b a (take i ks) least best
      → (least ≤ NONE) × ((z : List ℕ) (d : ℕ) → Contains (take i ks) z → MayContradict h b a z d → least ≤ get_or steps d 0)
  choice_bound least None best = (omega (arith, best.0), λ z d t may. omega (arith, best.0, best.1 z d t may))
  choice_bound least (Some found) best = (omega (arith, best.0, best.1.nearest.reached), λ z d t may. omega (arith, best.0, best.1.least z d t may))

  pub nearer_key : (least : ℕ) (best : Option (List ℕ × ℕ)) (c : ℕ) → IsBestChoice h steps b a (take i ks) least best → IsNearestReader h steps b a y c
      → get_or steps c 0 < least
      → IsBestChoice h steps b a (take (i + 1) ks) (get_or steps c 0) (Some (y, c))
  nearer_key least best c before nearest low = (
    refl,
    record {
      there = Contains-last ks i y within is;
      nearest = nearest;
      least = λ z d t may. ⊎_elim
          (λ old. omega (arith, (choice_bound least best before).1 z d old may))
          (λ same. nearest.least d (rw (← same) at may))
          (Contains-taken ks i y z within is t);
      first = λ z d t may e. ⊎_elim
          (λ old. absurd (omega (arith, (choice_bound least best before).1 z d old may)))
          (λ same. rw (← same) (not_above_itself y))
          (Contains-taken ks i y z within is t);
    },
  )

  -- the key has no reader, or none that is nearer
  pub no_nearer_key : (least : ℕ) (best : Option (List ℕ × ℕ)) → IsBestChoice h steps b a (take i ks) least best
      → ((d : ℕ) → MayContradict h b a y d → least ≤ get_or steps d 0)
      → IsBestChoice h steps b a (take (i + 1) ks) least best
  no_nearer_key least None before high = (
    before.0,
    λ z d t may. ⊎_elim
        (λ old. before.1 z d old may)
        (λ same. let up = high d (rw (← same) at may) in omega (arith, before.0, range d))
        (Contains-taken ks i y z within is t),
  )
  no_nearer_key least (Some found) before high = (
    before.0,
    record {
      there = Contains-still ks i y found.0 within is before.1.there;
      nearest = before.1.nearest;
      least = λ z d t may. ⊎_elim
          (λ old. before.1.least z d old may)
          (λ same. let up = high d (rw (← same) at may) in omega (arith, before.0))
          (Contains-taken ks i y z within is t);
      first = λ z d t may e. ⊎_elim
          (λ old. before.1.first z d old may e)
          (λ same. rw (← same) (earlier_key ks i y found.0 sorted within is before.1.there))
          (Contains-taken ks i y z within is t);
    },
  )

key_there : (h : History) (a c : ℕ) (x : List ℕ) → IsReadsPair h a c x → Contains (keys h) x
key_there h a c x pair = let key = read_key h a c x pair in (key.0, key.1, get_or_default (keys h) key.0 x [] key.1 ∙ key.2)

pub choice_of : (h : History) (steps : List ℕ) (b a least : ℕ) (best : Option (List ℕ × ℕ)) → IsBestChoice h steps b a (keys h) least best
    → MatchOption best ((x : List ℕ) (d : ℕ) → MayContradict h b a x d → get_or steps d 0 ≡ NONE) (λ found. IsChoice h steps b a found.0 found.1)
choice_of h steps b a least None best = λ x d may. best.1 x d (key_there h a d x may.1) may
choice_of h steps b a least (Some found) best = record {
  nearest = best.1.nearest;
  least = λ x d may. best.1.least x d (key_there h a d x may.1) may;
  first = λ x d may e. best.1.first x d (key_there h a d x may.1) may e;
}
