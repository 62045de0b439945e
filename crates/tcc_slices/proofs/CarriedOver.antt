-- A map of numbers that keeps pairs and writers, transaction by transaction, carries each link.
use Rattle.std.proofs.Common.{below_more, ◌≡◌, ◌<◌, ◌≤◌, ◌+◌, ◌-◌, ◌==◌, ◌↔◌, ◌⊎◌, inl, inr, ℕ, zero, suc, true, List, [], ◌∷◌, length, get_or, refl, ap, subst, ◌∙◌, arith}
use Rattle.std.specs.Prelude.{zip, slice_index}
use Rattle.std.specs.List.{Contains}
use Rattle.std.proofs.lemmas.Bool.{cases_lt, or_cases, eqb-true}
use Rattle.std.proofs.lemmas.List.{get_or_default}
use Rattle.tcc_reads.specs.History.{History, count, entry_at}
use Rattle.tcc_graph.specs.Relations.{IsSessionPair, IsReadsPair}
use Rattle.tcc_graph.specs.Keys.{IsWriter, has_name}
use Rattle.tcc_graph.proofs.NameLemmas.{has_name-contains}
use Rattle.tcc_graph.proofs.Pairs.{initial_pair, pair_parts}
use Rattle.tcc_graph.proofs.Kept.{IsKept, kept_link, moved_cost}
use Rattle.tcc_slices.specs.private.Carrying.{carry, Fits, IsRising, Keeps, KeepsReads, KeepsSessions, KeepsWrites}
use Rattle.tcc_slices.specs.Slices.{IsCarried}

-- ---- one after the other
-- of the first n each is above the one before it
abbrev pub IsAdjacent : List ℕ → ℕ → Type 0
IsAdjacent numbers n = (j : ℕ) → 0 < j → j < n → slice_index numbers (j - 1) < slice_index numbers j

pub rising_none : (numbers : List ℕ) → IsAdjacent numbers 1
rising_none numbers j some l = absurd (omega (arith, l, some))

pub rising_more : (numbers : List ℕ) (n : ℕ) → IsAdjacent numbers n → slice_index numbers (n - 1) < slice_index numbers n → IsAdjacent numbers (n + 1)
rising_more numbers n before here j some l =
    below_more (λ j. 0 < j → slice_index numbers (j - 1) < slice_index numbers j) n (λ j l some. before j some l) (λ some. here) j l some

pub rising_all : (numbers : List ℕ) (n : ℕ) → length numbers ≤ n → IsAdjacent numbers n → IsRising numbers
rising_all numbers n all each i zero less below = absurd (omega (arith, less))
rising_all numbers n all each i (suc j) less below = go (λ more. rising_all numbers n all each i j more (omega (arith, below))) (cases_lt i j)
  where
    here : slice_index numbers j < slice_index numbers (suc j)
    here =
        let e : suc j - 1 ≡ j = omega arith in
        subst (λ (z : ℕ). slice_index numbers z < slice_index numbers (suc j)) e (each (suc j) (omega arith) (omega (arith, below, all)))

    go : (i < j → slice_index numbers i < slice_index numbers j) → (i < j) ⊎ (j ≤ i) → slice_index numbers i < slice_index numbers (suc j)
    go before (inl more) = omega (arith, here, before more)
    go before (inr last) = let same : i ≡ j = omega (arith, last, less) in rw same here

-- ---- the readings of one transaction
zip_parts : (rs : List ℕ) (ks : List (List ℕ)) (k c : ℕ) (x : List ℕ) → k < length (zip rs ks) → get_or (zip rs ks) k (c, x) ≡ (c, x)
    → (k < length rs) × (get_or rs k 0 ≡ c) × (get_or ks k [] ≡ x)
zip_parts [] ks k c x l e = absurd (omega arith)
zip_parts (r ∷ rs) [] k c x l e = absurd (omega arith)
zip_parts (r ∷ rs) (y ∷ ks) zero c x l e = (omega arith, ap (λ z. z.0) e, ap (λ z. z.1) e)
zip_parts (r ∷ rs) (y ∷ ks) (suc k) c x l e = let w = zip_parts rs ks k c x (omega arith) e in (omega (arith, w.0), w.1, w.2)

pub zip_in : (rs : List ℕ) (ks : List (List ℕ)) (k : ℕ) → k < length rs → length rs ≡ length ks → Contains (zip rs ks) (get_or rs k 0, get_or ks k [])
zip_in [] ks k inside long = absurd (omega (arith, inside))
zip_in (r ∷ rs) [] k inside long = absurd (omega (arith, long))
zip_in (r ∷ rs) (x ∷ ks) zero inside long = (0, omega arith, refl)
zip_in (r ∷ rs) (x ∷ ks) (suc k) inside long =
    let w = zip_in rs ks k (omega (arith, inside)) (omega (arith, long)) in (suc w.0, omega (arith, w.1), w.2)

-- the first n of the readings are kept
abbrev pub AreKept : List ℕ → History → ℕ → List ℕ → List (List ℕ) → ℕ → Type 0
AreKept numbers large a rs ks n = (k : ℕ) → k < n → IsReadsPair large (carry numbers a) (carry numbers (get_or rs k 0)) (get_or ks k [])

pub kept_more : (numbers : List ℕ) (large : History) (a : ℕ) (rs : List ℕ) (ks : List (List ℕ)) (n : ℕ) → AreKept numbers large a rs ks n
    → IsReadsPair large (carry numbers a) (carry numbers (get_or rs n 0)) (get_or ks n []) → AreKept numbers large a rs ks (n + 1)
kept_more numbers large a rs ks n before here =
    below_more (λ k. IsReadsPair large (carry numbers a) (carry numbers (get_or rs k 0)) (get_or ks k [])) n before here

pub kept_all : (numbers : List ℕ) (small large : History) (a : ℕ) (rs : List ℕ) (ks : List (List ℕ)) (n : ℕ) → length rs ≤ n
    → ((c : ℕ) (x : List ℕ) → Contains (zip rs ks) (c, x) ↔ IsReadsPair small a c x) → AreKept numbers large a rs ks n → KeepsReads numbers small large a
kept_all numbers small large a rs ks n all each kept c x pair =
    let there = (each c x).1 pair in
    let w = zip_parts rs ks there.0 c x there.1 there.2 in
    let reader = subst (λ (z : ℕ). IsReadsPair large (carry numbers a) (carry numbers z) (get_or ks there.0 [])) w.1 (kept there.0 (omega (arith, w.0, all))) in
    subst (λ (z : List ℕ). IsReadsPair large (carry numbers a) (carry numbers c) z) w.2 reader

-- ---- what a transaction comes before
abbrev pub AreLater : List ℕ → History → ℕ → ℕ → ℕ → Type 0
AreLater numbers large a low n = (b : ℕ) → low ≤ b → b < n → IsSessionPair large (carry numbers a) (carry numbers b)

pub later_more : (numbers : List ℕ) (large : History) (a low n : ℕ) → AreLater numbers large a low n → IsSessionPair large (carry numbers a) (carry numbers n)
    → AreLater numbers large a low (n + 1)
later_more numbers large a low n before here b above l =
    below_more (λ b. low ≤ b → IsSessionPair large (carry numbers a) (carry numbers b)) n (λ b l above. before b above l) (λ above. here) b l above

pub later_all : (numbers : List ℕ) (small large : History) (a low high n : ℕ) → high ≤ n → ((v : ℕ) → IsSessionPair small a v ↔ ((low ≤ v) × (v < high)))
    → AreLater numbers large a low n → KeepsSessions numbers small large a
later_all numbers small large a low high n all each kept b pair = let w = (each b).0 pair in kept b w.0 (omega (arith, w.1, all))

-- ---- what it writes
abbrev pub AreWritten : List ℕ → History → ℕ → List (List ℕ) → ℕ → Type 0
AreWritten numbers large b ks n = (k : ℕ) → k < n → IsWriter large (carry numbers b) (get_or ks k [])

pub written_more : (numbers : List ℕ) (large : History) (b : ℕ) (ks : List (List ℕ)) (n : ℕ) → AreWritten numbers large b ks n
    → IsWriter large (carry numbers b) (get_or ks n []) → AreWritten numbers large b ks (n + 1)
written_more numbers large b ks n before here = below_more (λ k. IsWriter large (carry numbers b) (get_or ks k [])) n before here

pub written_all : (numbers : List ℕ) (small large : History) (b n : ℕ) → length (entry_at small b).writes ≤ n
    → AreWritten numbers large b (entry_at small b).writes n → KeepsWrites numbers small large b
written_all numbers small large b n all written x is =
    let ks = (entry_at small b).writes in
    let there = has_name-contains ks x is in
    let at : get_or ks there.0 [] ≡ x = get_or_default ks there.0 [] x there.1 ∙ there.2 in
    subst (λ (y : List ℕ). IsWriter large (carry numbers b) y) at (written there.0 (omega (arith, there.1, all)))

-- ---- all of them
-- the first n transactions are kept
abbrev pub HasKept : List ℕ → History → History → ℕ → Type 0
HasKept numbers small large n = (a : ℕ) → a < n → Keeps numbers small large a

pub has_none : (numbers : List ℕ) (small large : History) → HasKept numbers small large 0
has_none numbers small large a l = absurd (omega (arith, l))

pub has_more : (numbers : List ℕ) (small large : History) (n : ℕ) → HasKept numbers small large n → Keeps numbers small large n
    → HasKept numbers small large (n + 1)
has_more numbers small large n before here = below_more (Keeps numbers small large) n before here

module _ (numbers : List ℕ) (small large : History) (n : ℕ) (all : count small ≤ n) (kept : HasKept numbers small large n) (fits : Fits numbers small large) where
  long : length numbers ≡ count small
  long = fits.0

  first : slice_index numbers 0 ≡ 0
  first = fits.1

  up : (a b : ℕ) → a < b → b < count small → carry numbers a < carry numbers b
  up a b less below = fits.3 a b less (omega (arith, below, long))

  inside : (b : ℕ) → b < count small → carry numbers b < count large
  inside zero below = omega (arith, first, fits.2)
  inside (suc i) below =
      let pair = initial_pair small 0 (suc i) refl (omega (arith, below)) (omega arith) below in
      (pair_parts large (carry numbers 0) (carry numbers (suc i)) ((kept 0 (omega (arith, below, all))).1 (suc i) pair)).to

  positive : (b : ℕ) → 0 < b → b < count small → 0 < carry numbers b
  positive b more below = omega (arith, up 0 b more below, first)

  once : (a b : ℕ) → a < count small → b < count small → carry numbers a ≡ carry numbers b → a ≡ b
  once a b low high same = go (cases_lt a b) (cases_lt b a)
    where
      go : (a < b) ⊎ (b ≤ a) → (b < a) ⊎ (a ≤ b) → a ≡ b
      go (inl less) other = absurd (omega (arith, up a b less high, same))
      go (inr first) (inl more) = absurd (omega (arith, up b a more low, same))
      go (inr first) (inr second) = omega (arith, first, second)

  has : (b : ℕ) (x : List ℕ) → 0 < b → b < count small → has_name (entry_at small b).writes x ≡ true → has_name (entry_at large (carry numbers b)).writes x ≡ true
  has b x more below is =
      let w = (kept b (omega (arith, below, all))).2 x is in
      go (or_cases (carry numbers b == 0) (has_name (entry_at large (carry numbers b)).writes x) w.1)
    where
      go : ((carry numbers b == 0) ≡ true) ⊎ (has_name (entry_at large (carry numbers b)).writes x ≡ true)
          → has_name (entry_at large (carry numbers b)).writes x ≡ true
      go (inl none) = absurd (omega (arith, eqb-true (carry numbers b) 0 none, positive b more below))
      go (inr there) = there

  is_kept : IsKept small large (carry numbers)
  is_kept = record {
    first = first;
    some = positive;
    below = inside;
    once = once;
    session = λ a b more pair. (kept a (omega (arith, (pair_parts small a b pair).from, all))).1 b pair;
    written = has;
    read = λ a b x pair. (kept a (omega (arith, pair.0, all))).0 b x pair;
  }

  pub carried : IsCarried (carry numbers) small large
  carried = record {
    initial = first;
    within = inside;
    rises = up;
    links = λ level l is. (kept_link small large (carry numbers) is_kept level l is, moved_cost (carry numbers) l);
  }
