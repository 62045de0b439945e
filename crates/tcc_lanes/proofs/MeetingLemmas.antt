-- The columns of members, and where lanes meet the readers of what their starts write.
use Rattle.std.proofs.Common.{◌≡◌, ◌≢◌, ◌<◌, ◌≤◌, ◌+◌, ◌⊎◌, ◌↔◌, inl, inr, ℕ, suc, zero, List, [], ◌∷◌, length, get_or, set, replicate, length-set, refl, sym, ap, subst, ◌∙◌, arith}
use Rattle.std.specs.Prelude.{bit_and, bit_or}
use Rattle.std.specs.List.{All, AllPairs, Contains}
use Rattle.std.proofs.lemmas.Bool.{cases_eq, cases_lt}
use Rattle.std.proofs.lemmas.List.{get_or-replicate, get_or-set_other, get_or-set_same, get_or_default, length-replicate}
use Rattle.std.proofs.lemmas.List.Elements.{Contains-get_or}
use Rattle.tcc_reads.specs.History.{History, count}
use Rattle.tcc_graph.specs.Keys.{key_at}
use Rattle.tcc_least.proofs.ReadLemmas.{AreReadsAt, is_read, read_is}
use Rattle.tcc_lanes.specs.declared.hits.TheConstants.{NO_COLUMN}
use Rattle.tcc_lanes.specs.declared.words.TheConstants.{LANES}
use Rattle.tcc_lanes.specs.private.Marks.{HasLane, IsAt}
use Rattle.tcc_lanes.specs.private.Pricing.{AreColumns, IsMetAt, IsMetIn}
use Rattle.tcc_lanes.proofs.Grown.{OneBelow, grown_more, grown_none, grown_same, one_earlier, one_last, one_or_last}
use Rattle.tcc_lanes.proofs.MarkLemmas.{key_of_read}
use Rattle.tcc_lanes.proofs.WordLemmas.{both_have, either_has}

-- ---- lists that ascend below a number
ascending_at : (xs : List ℕ) → AllPairs (λ u v. u < v) xs → (k : ℕ) → k < length xs → k ≤ get_or xs k 0
ascending_at xs up zero inside = omega arith
ascending_at xs up (suc k) inside = omega (arith, ascending_at xs up k (omega (arith, inside)), up k (suc k) 0 (omega arith) inside)

-- an ascending list of numbers below n has at most n items
pub ascending_few : (xs : List ℕ) (n : ℕ) → AllPairs (λ u v. u < v) xs → All (λ v. v < n) xs → length xs ≤ n
ascending_few [] n up below = omega arith
ascending_few (x ∷ xs) n up below = omega (arith, ascending_at (x ∷ xs) up (length xs) (omega arith), below (length xs) 0 (omega arith))

-- ---- columns
-- the columns of the first members
abbrev pub AreColumnsTo : History → List ℕ → ℕ → List ℕ → Type 0
AreColumnsTo h members end columns =
    (length columns ≡ count h)
    × ((a v : ℕ) → a < count h → v < length members → (get_or columns a 0 ≡ v) ↔ ((v < end) × (get_or members v 0 ≡ a)))

pub columns_none : (h : History) (members : List ℕ) → length members ≤ NO_COLUMN → AreColumnsTo h members 0 (replicate (count h) NO_COLUMN)
columns_none h members few = (
  length-replicate {A = ℕ} (count h) NO_COLUMN,
  λ a v below inside. (
    (λ same. absurd (omega (arith, same, inside, few, get_or-replicate {A = ℕ} (count h) a NO_COLUMN 0 below))),
    λ is. absurd (omega (arith, is.0)),
  ),
)

pub columns_more : (h : History) (members columns : List ℕ) (k : ℕ) → AllPairs (λ u v. u < v) members → k < length members → AreColumnsTo h members k columns
    → get_or members k 0 < count h → AreColumnsTo h members (k + 1) (set columns (get_or members k 0) k)
columns_more h members columns k ascending inside w there = (length-set columns (get_or members k 0) k ∙ w.0, λ a v below within. at a v below within (cases_eq a (get_or members k 0)))
  where
    once : (v : ℕ) → v < length members → get_or members v 0 ≡ get_or members k 0 → v ≡ k
    once v within same = go (cases_eq v k) (cases_lt v k)
      where
        go : (v ≡ k) ⊎ (v ≢ k) → (v < k) ⊎ (k ≤ v) → v ≡ k
        go (inl e) q = e
        go (inr other) (inl less) = absurd (omega (arith, same, ascending v k 0 less inside))
        go (inr other) (inr more) = absurd (omega (arith, same, ascending k v 0 (omega (arith, other, more)) within))

    at : (a v : ℕ) → a < count h → v < length members → (a ≡ get_or members k 0) ⊎ (a ≢ get_or members k 0)
        → (get_or (set columns (get_or members k 0) k) a 0 ≡ v) ↔ ((v < k + 1) × (get_or members v 0 ≡ a))
    at a v below within (inl here) = rw (here, get_or-set_same columns (get_or members k 0) k 0 (omega (arith, there, w.0))) (
      (λ same. (omega (arith, same), ap (λ (n : ℕ). get_or members n 0) (sym same))),
      λ is. sym (once v within is.1),
    )
    at a v below within (inr other) = rw (get_or-set_other columns (get_or members k 0) a k 0 other) (
      (λ same. let is = (w.1 a v below within).0 same in (omega (arith, is.0), is.1)),
      λ is. (w.1 a v below within).1 (earlier is (cases_eq v k), is.1),
    )
      where
        earlier : (v < k + 1) × (get_or members v 0 ≡ a) → (v ≡ k) ⊎ (v ≢ k) → v < k
        earlier is (inl last) = absurd (other (sym is.1 ∙ ap (λ (n : ℕ). get_or members n 0) last))
        earlier is (inr apart) = omega (arith, is.0, apart)

pub columns_all : (h : History) (members columns : List ℕ) (n : ℕ) → length members ≤ n → AreColumnsTo h members n columns → AreColumns h members columns
columns_all h members columns n all w = record {
  long = w.0;
  each = λ a v below within. (
    (λ same. ((w.1 a v below within).0 same).1),
    λ is. (w.1 a v below within).1 (omega (arith, within, all), is),
  );
}

-- ---- the reads of a reader
-- this read meets the lane at the column of a member
abbrev pub IsMetBy : List ℕ → List ℕ → ℕ → List (ℕ × ℕ) → ℕ → ℕ → ℕ → Type 0
IsMetBy columns writers word reads v i n =
    (get_or columns (get_or reads n (0, 0)).1 0 ≡ v) × HasLane (bit_and word (get_or writers (get_or reads n (0, 0)).0 0)) i

-- the lanes that are meant were added, and no others
abbrev pub AreGrown : List ℕ → List ℕ → (ℕ → ℕ → Type 0) → Type 0
AreGrown old new Is = (length new ≡ length old) × ((v i : ℕ) → v < length old → i < LANES → IsAt new v i ↔ (IsAt old v i ⊎ Is v i))

module _ (columns writers : List ℕ) (word : ℕ) (reads : List (ℕ × ℕ)) (old : List ℕ) where
  abbrev pub MetTo : ℕ → ℕ → ℕ → Type 0
  MetTo n v i = OneBelow (IsMetBy columns writers word reads v i) n

  pub met_none : AreGrown old old (MetTo 0)
  met_none = (refl, λ v i l m. grown_none (λ is. omega (arith, is.1)))

  module _ (n : ℕ) (mid : List ℕ) (w : AreGrown old mid (MetTo n)) where
    abbrev column : ℕ
    column = get_or columns (get_or reads n (0, 0)).1 0

    abbrev both : ℕ
    both = bit_and word (get_or writers (get_or reads n (0, 0)).0 0)

    pub met_more : column < length mid → AreGrown old (set mid column (bit_or (get_or mid column 0) both)) (MetTo (n + 1))
    met_more inside = (
      length-set mid column (bit_or (get_or mid column 0) both) ∙ w.0,
      λ v i l m. grown_more (one_earlier (IsMetBy columns writers word reads v i) n) (one_last (IsMetBy columns writers word reads v i) n)
          (one_or_last (IsMetBy columns writers word reads v i) n) (w.1 v i l m) (at v i (cases_eq v column)),
    )
      where
        at : (v i : ℕ) → (v ≡ column) ⊎ (v ≢ column)
            → IsAt (set mid column (bit_or (get_or mid column 0) both)) v i ↔ (IsAt mid v i ⊎ IsMetBy columns writers word reads v i n)
        at v i (inl same) = rw (same, get_or-set_same mid column (bit_or (get_or mid column 0) both) 0 inside) (
          (λ has. there ((either_has (get_or mid column 0) both i).0 has)),
          λ is. (either_has (get_or mid column 0) both i).1 (back is),
        )
          where
            there : HasLane (get_or mid column 0) i ⊎ HasLane both i → IsAt mid column i ⊎ IsMetBy columns writers word reads column i n
            there (inl before) = inl before
            there (inr now) = inr (refl, now)

            back : IsAt mid column i ⊎ IsMetBy columns writers word reads column i n → HasLane (get_or mid column 0) i ⊎ HasLane both i
            back (inl before) = inl before
            back (inr is) = inr is.1
        at v i (inr other) = rw (get_or-set_other mid column v (bit_or (get_or mid column 0) both) 0 other) (grown_none (λ is. other (sym is.0)))

    pub met_same : length mid ≤ column → AreGrown old mid (MetTo (n + 1))
    met_same past = (
      w.0,
      λ v i l m. grown_same (one_earlier (IsMetBy columns writers word reads v i) n) (λ is. back v i l (one_or_last (IsMetBy columns writers word reads v i) n is)) (w.1 v i l m),
    )
      where
        back : (v i : ℕ) → v < length old → MetTo n v i ⊎ IsMetBy columns writers word reads v i n → MetTo n v i
        back v i l (inl early) = early
        back v i l (inr (here, has)) = absurd (omega (arith, here, past, l, w.0))

  pub met_all : (h : History) (reader : ℕ) → AreReadsAt h reader reads → reader < count h → (n : ℕ) → length reads ≡ n → (new : List ℕ) → AreGrown old new (MetTo n)
      → AreGrown old new (λ v i. IsMetAt h columns writers word reader v i)
  met_all h reader are below n all new w = (w.0, λ v i l m. grown_same (there v i) (back v i) (w.1 v i l m))
    where
      there : (v i : ℕ) → MetTo n v i → IsMetAt h columns writers word reader v i
      there v i (m, less, (here, has)) =
          let read : ℕ × ℕ = get_or reads m (0, 0) in
          let inside : m < length reads = omega (arith, less, all) in
          let both_in = (both_have word (get_or writers read.0 0) i).0 has in
          (both_in.0, read.1, read.0, here, (are.within m (0, 0) inside).0, is_read h reader reads are read (Contains-get_or reads m (0, 0) inside) below, both_in.1)

      back : (v i : ℕ) → IsMetAt h columns writers word reader v i → MetTo n v i
      back v i (has, a, k, here, inside, pair, at) = go (read_is h reader reads are a (key_at h k) pair)
        where
          go : (read : ℕ × ℕ) × Contains reads read × (read.1 ≡ a) × (key_at h read.0 ≡ key_at h k) → MetTo n v i
          go (read, (m, within, is), from, key) = (
            m,
            omega (arith, within, all),
            (
              ap (λ (r : ℕ × ℕ). get_or columns r.1 0) read_here ∙ (ap (λ (b : ℕ). get_or columns b 0) from ∙ here),
              (both_have word (get_or writers (get_or reads m (0, 0)).0 0) i).1 (
                has,
                subst (λ (z : ℕ). IsAt writers z i)
                    (sym (key_of_read h reader reads are m k within inside (ap (λ (r : ℕ × ℕ). key_at h r.0) read_here ∙ key))) at,
              ),
            ),
          )
            where
              read_here : get_or reads m (0, 0) ≡ read
              read_here = get_or_default reads m (0, 0) read within ∙ is

-- ---- all readers
module _ (h : History) (columns writers reached old : List ℕ) where
  abbrev pub MetIn : ℕ → ℕ → ℕ → Type 0
  MetIn n v i = IsMetIn h columns writers reached n v i

  abbrev At : ℕ → ℕ → ℕ → Type 0
  At v i reader = IsMetAt h columns writers (get_or reached reader 0) reader v i

  pub in_none : AreGrown old old (MetIn 0)
  in_none = (refl, λ v i l m. grown_none (λ is. omega (arith, is.1)))

  pub in_more : (n : ℕ) (mid new : List ℕ) → AreGrown old mid (MetIn n) → AreGrown mid new (λ v i. IsMetAt h columns writers (get_or reached n 0) n v i)
      → AreGrown old new (MetIn (n + 1))
  in_more n mid new w v = (
    v.0 ∙ w.0,
    λ u i l m. grown_more (one_earlier (At u i) n) (one_last (At u i) n) (one_or_last (At u i) n) (w.1 u i l m) (v.1 u i (omega (arith, l, w.0)) m),
  )
