-- Positions of an order.
use Rattle.std.proofs.Common.{◌≡◌, ◌≢◌, ◌<◌, ◌≤◌, ◌+◌, ◌⊎◌, inl, inr, ℕ, false, List, length, eqb, get_or, set, replicate, take, sym, ap, subst, ◌∙◌, arith}
use Rattle.std.specs.Prelude.{min}
use Rattle.std.specs.List.{Contains}
use Rattle.std.proofs.lemmas.Bool.{cases_eq, eqb-true, ne_eqb}
use Rattle.std.proofs.lemmas.List.Elements.{All-contains}
use Rattle.std.proofs.lemmas.List.{get_or-set_same, get_or-set_other, get_or_default, length-set, length-replicate, take_all}
use Rattle.std.proofs.lemmas.Map.Keys.{IsDistinct-from_apart}
use Rattle.std.proofs.lemmas.Map.Steps.{length-le_from_distinct_below}
use Rattle.std.proofs.lemmas.Map.Views.{Contains-from_any}
use Rattle.tcc_reads.specs.History.{History, count}
use Rattle.tcc_graph.specs.Orders.{Before, IsNumbering}
use Rattle.tcc_graph.specs.Relations.{IsReadsPair}
use Rattle.tcc_graph.specs.Readings.{AreReadingsByIndex}
use Rattle.tcc_graph.proofs.Numberings.{one_index, has_index, below_in}
use Rattle.tcc_graph.specs.Keys.{key_at}
use Rattle.tcc_bits.proofs.Lists.{one_of_taken, still_taken, last_taken, nothing_in}
use Rattle.tcc_cert.specs.Tables.{IsFirstAt, IsEarlier}
use Rattle.tcc_judge.specs.declared.least.TheConstants.{NONE}
use Rattle.tcc_judge.specs.private.Least.{IsLeastOf}
use Rattle.tcc_judge.proofs.LeastLemmas.{least_none, least_same, least_lower}
use Rattle.tcc_judge.specs.private.Positions.{ArePositions, IsTurned}
use Rattle.tcc_judge.proofs.ReadingLemmas.{reading_at, reading_place}

-- a list with each number below n once has no more than n numbers
pub numbering_few : (n : ℕ) (order : List ℕ) → IsNumbering n order → length order ≤ n
numbering_few n order is =
    length-le_from_distinct_below order n (IsDistinct-from_apart eqb order distinct)
    (λ q any. All-contains (λ a. a < n) order q is.below (Contains-from_any eqb-true q order any))
  where
    distinct : (i j d : ℕ) → i < j → j < length order → eqb (get_or order i d) (get_or order j d) ≡ false
    distinct i j d less l = ne_eqb _ _ (λ same. is.once i j less l (get_or_default order i 0 d (omega arith) ∙ same ∙ get_or_default order j d 0 l))

-- the first i numbers have their positions
pub record ArePositionsTo (n : ℕ) (i : ℕ) (order : List ℕ) (positions : List ℕ) : Type 0 where
  pub long : length positions ≡ n
  pub seen : (k : ℕ) → k < i → get_or positions (get_or order k 0) 0 ≡ k

pub none_placed : (order : List ℕ) (n : ℕ) → ArePositionsTo n 0 order (replicate n 0)
none_placed order n = record { long = length-replicate n 0; seen = λ k l. absurd (omega arith) }

pub one_placed : (n : ℕ) (order positions : List ℕ) (i : ℕ) → IsNumbering n order → i < length order → ArePositionsTo n i order positions
    → ArePositionsTo n (i + 1) order (set positions (get_or order i 0) i)
one_placed n order positions i numbering inside w = record {
  long = length-set positions (get_or order i 0) i ∙ w.long;
  seen = λ k l. go k l (cases_eq k i);
}
  where
    low : get_or order i 0 < length positions
    low = omega (arith, below_in numbering i inside, w.long)

    go : (k : ℕ) → k < i + 1 → (k ≡ i) ⊎ (k ≢ i) → get_or (set positions (get_or order i 0) i) (get_or order k 0) 0 ≡ k
    go k l (inl same) =
        ap (λ z. get_or (set positions (get_or order i 0) i) (get_or order z 0) 0) same ∙ (get_or-set_same positions (get_or order i 0) i 0 low ∙ sym same)
    go k l (inr other) =
        let apart : get_or order k 0 ≢ get_or order i 0 = λ e. other (one_index numbering k i (omega arith) inside e) in
        get_or-set_other positions (get_or order i 0) (get_or order k 0) i 0 apart ∙ w.seen k (omega arith)

pub all_placed : (n : ℕ) (order positions : List ℕ) (i : ℕ) → IsNumbering n order → length order ≤ i → ArePositionsTo n i order positions
    → ArePositions n order positions
all_placed n order positions i numbering all w = record {
  long = w.long;
  within = λ a l. let at = has_index numbering a l in omega (arith, at.1, ap (λ z. get_or positions z 0) at.2, w.seen at.0 (omega (arith, at.1)));
  here = λ a l. here a (has_index numbering a l);
}
  where
    here : (a : ℕ) → (k : ℕ) × (k < length order) × (get_or order k 0 ≡ a) → get_or order (get_or positions a 0) 0 ≡ a
    here a (k, l, e) =
        let at : get_or positions a 0 ≡ k = sym (ap (λ z. get_or positions z 0) e) ∙ w.seen k (omega arith) in
        ap (λ z. get_or order z 0) at ∙ e

-- which comes before which
module _ (n : ℕ) (order positions : List ℕ) (numbering : IsNumbering n order) (are : ArePositions n order positions) where
  stands_at : (k a : ℕ) → k < length order → get_or order k 0 ≡ a → get_or positions a 0 ≡ k
  stands_at k a l e =
      let low : a < n = omega (arith, below_in numbering k l, e) in
      one_index numbering (get_or positions a 0) k (are.within a low) l (are.here a low ∙ sym e)

  pub before_at : (a b : ℕ) → Before order a b → get_or positions a 0 < get_or positions b 0
  before_at a b (i, j, less, within, at_a, at_b) = omega (arith, stands_at i a (omega arith) at_a, stands_at j b within at_b, less)

  pub at_before : (a b : ℕ) → a < n → b < n → get_or positions a 0 < get_or positions b 0 → Before order a b
  at_before a b low within less = (get_or positions a 0, get_or positions b 0, less, are.within b within, are.here a low, are.here b within)

  pub same_place : (a b : ℕ) → a < n → b < n → get_or positions a 0 ≡ get_or positions b 0 → a ≡ b
  same_place a b low within same = sym (are.here a low) ∙ (ap (λ z. get_or order z 0) same ∙ are.here b within)

-- ---- pairs that are not in order

-- one of the first i readers does not come after a
abbrev pub IsTurnedIn : List ℕ → List ℕ → ℕ → ℕ → ℕ → Type 0
IsTurnedIn readers positions a i c = Contains (take i readers) c × (get_or positions c 0 ≤ get_or positions a 0)

module _ (readers positions : List ℕ) (a i least : ℕ) (inside : i < length readers) where
  pub turned_more : get_or positions (get_or readers i 0) 0 ≤ get_or positions a 0 → IsLeastOf (IsTurnedIn readers positions a i) least
      → IsLeastOf (IsTurnedIn readers positions a (i + 1)) (min (get_or readers i 0) least)
  turned_more low w =
      least_lower (IsTurnedIn readers positions a i) (IsTurnedIn readers positions a (i + 1)) least (get_or readers i 0)
      (λ n is. (still_taken readers i inside n is.0, is.1)) (last_taken readers i inside, low) (λ n is. go n (one_of_taken readers i inside n is.0) is.1) w
    where
      go : (n : ℕ) → Contains (take i readers) n ⊎ (get_or readers i 0 ≡ n) → get_or positions n 0 ≤ get_or positions a 0
          → IsTurnedIn readers positions a i n ⊎ (n ≡ get_or readers i 0)
      go n (inl there) l = inl (there, l)
      go n (inr same) l = inr (sym same)

  pub turned_same : get_or positions a 0 < get_or positions (get_or readers i 0) 0 → IsLeastOf (IsTurnedIn readers positions a i) least
      → IsLeastOf (IsTurnedIn readers positions a (i + 1)) least
  turned_same high w =
      least_same (IsTurnedIn readers positions a i) (IsTurnedIn readers positions a (i + 1)) least
      (λ n is. (still_taken readers i inside n is.0, is.1)) (λ n is. (go n (one_of_taken readers i inside n is.0) is.1, is.1)) w
    where
      go : (n : ℕ) → Contains (take i readers) n ⊎ (get_or readers i 0 ≡ n) → get_or positions n 0 ≤ get_or positions a 0 → Contains (take i readers) n
      go n (inl there) l = there
      go n (inr same) l = absurd (omega (arith, l, high, ap (λ z. get_or positions z 0) same))

pub turned_none : (readers positions : List ℕ) (a : ℕ) → IsLeastOf (IsTurnedIn readers positions a 0) NONE
turned_none readers positions a = least_none (IsTurnedIn readers positions a 0) (λ n is. nothing_in n is.0)

pub turned_all : (h : History) (positions : List ℕ) (a : ℕ) (readers key_indices : List ℕ) (i least : ℕ) → AreReadingsByIndex h a readers key_indices
    → length readers ≤ i → IsLeastOf (IsTurnedIn readers positions a i) least → IsLeastOf (λ c. IsTurned h positions (a, c)) least
turned_all h positions a readers key_indices i least are all w =
    least_same (IsTurnedIn readers positions a i) (λ c. IsTurned h positions (a, c)) least (λ n is. there n is.0 is.1) (λ n is. back n is) w
  where
    whole : take i readers ≡ readers
    whole = take_all i readers all

    there : (n : ℕ) → Contains (take i readers) n → get_or positions n 0 ≤ get_or positions a 0 → IsTurned h positions (a, n)
    there n is low = go (rw whole at is)
      where
        go : Contains readers n → IsTurned h positions (a, n)
        go (k, l, e) =
            let at : get_or readers k 0 ≡ n = get_or_default readers k 0 n l ∙ e in
            let read = reading_at h a readers key_indices are k l in
            (key_at h (get_or key_indices k 0), subst (λ (z : ℕ). IsReadsPair h a z (key_at h (get_or key_indices k 0))) at read.pair, low)

    back : (n : ℕ) → IsTurned h positions (a, n) → IsTurnedIn readers positions a i n
    back n (x, pair, low) =
        let place = reading_place h a readers key_indices are n x pair in
        (rw whole (place.0, place.1, get_or_default readers place.0 n 0 place.1 ∙ place.2), low)

-- the first of them
abbrev pub IsTurnedBelow : History → List ℕ → ℕ → Type 0
IsTurnedBelow h positions end = (at : ℕ × ℕ) → at.0 < end → IsTurned h positions at → ⊥

pub below_more : (h : History) (positions : List ℕ) (a least : ℕ) → count h < NONE → least ≡ NONE → IsLeastOf (λ c. IsTurned h positions (a, c)) least
    → IsTurnedBelow h positions a → IsTurnedBelow h positions (a + 1)
below_more h positions a least few none w before = λ at l is. go at l is (cases_eq at.0 a)
  where
    go : (at : ℕ × ℕ) → at.0 < a + 1 → IsTurned h positions at → (at.0 ≡ a) ⊎ (at.0 ≢ a) → ⊥
    go at l (x, pair, low) (inl same) =
        let lowest = w.lowest at.1 (subst (λ (z : ℕ). IsTurned h positions (z, at.1)) same (x, pair, low)) in
        omega (arith, lowest, pair.1, few, none)
    go at l is (inr other) = before at (omega arith) is

pub first_here : (h : History) (positions : List ℕ) (a least : ℕ) → least ≢ NONE → IsLeastOf (λ c. IsTurned h positions (a, c)) least
    → IsTurnedBelow h positions a → IsFirstAt (IsTurned h positions) (a, least)
first_here h positions a least some w before = record { here = here w.attained; first = λ earlier less is. first earlier less is }
  where
    here : (least ≡ NONE) ⊎ IsTurned h positions (a, least) → IsTurned h positions (a, least)
    here (inl none) = absurd (some none)
    here (inr is) = is

    first : (earlier : ℕ × ℕ) → IsEarlier earlier (a, least) → IsTurned h positions earlier → ⊥
    first earlier (inl less) is = before earlier less is
    first earlier (inr (same, less)) is =
        let lowest = w.lowest earlier.1 (subst (λ (z : ℕ). IsTurned h positions (z, earlier.1)) same is) in
        omega (arith, lowest, less)
