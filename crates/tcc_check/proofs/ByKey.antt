-- Who reads each key, as it is noted, and what a row has for the readers of each source.
use Rattle.std.proofs.Common.{◌≡◌, ◌≢◌, ◌<◌, ◌≤◌, ◌+◌, ◌-◌, ℕ, true, eqb, ◌⊎◌, inl, inr, List, [], ◌∷◌, ◌++◌, length, get_or, Option, None}
use Rattle.std.proofs.Common.{set, min, take, drop, arith, refl, sym, ap, subst, ◌∙◌}
use Rattle.std.specs.Prelude.{All, IfSome, map}
use Rattle.std.specs.List.{Contains, zip}
use Rattle.std.proofs.lemmas.Bool.{cases_eq, cases_lt, or_cases, or_right, eqb-true}
use Rattle.std.proofs.lemmas.List.{get_or_append_left, get_or_default, get_or_push, length_push}
use Rattle.tcc_reads.specs.History.{History, count, entry_at}
use Rattle.tcc_graph.specs.Keys.{has_name, key_at}
use Rattle.tcc_graph.specs.Relations.{IsReadsPair}
use Rattle.tcc_graph.proofs.NameLemmas.{has_name-contains, contains-has_name}
use Rattle.tcc_check.specs.private.Groups.{AreGroupsOf, links_by}
use Rattle.tcc_check.specs.private.Readings.{AreReadingsAt, AreReadingsTo, KeyWeighs, PairWeighs, KeysWeigh, ReadingWeighs, readings_at}
use Rattle.tcc_check.specs.private.Weights.{IsLowered, unlinked}
use Rattle.tcc_check.specs.private.WeightsFrom.{ContradictsBy, SourceWeighs}
use Rattle.tcc_check.proofs.LinksFrom.{seconds-by, zip-at, zip-from}
use Rattle.tcc_check.proofs.LinksFrom.{one-lowered}
use Rattle.tcc_check.proofs.Lowering.{lowered_none, lowered_as, lowered_then, lowered_one}
use Rattle.tcc_check.proofs.Grouped.{at_run, begin, group, group_begins, group_weight, in_run, run_long}
use Rattle.tcc_txn.proofs.Lists.{from_map, in_map}

-- ---- the readings of a key

-- readers and sources beside one another
pub record ArePaired (i : ℕ) (sources readers : List ℕ) (readings : List (ℕ × ℕ)) : Type 0 where
  pub long : length readings ≡ i
  pub at : (k : ℕ) → k < i → get_or readings k (0, 0) ≡ (get_or readers k 0, get_or sources k 0)

module _ (sources readers : List ℕ) where
  pub none-paired : ArePaired 0 sources readers []
  none-paired = record { long = refl; at = λ k l. absurd (omega (arith, l)) }

  pub more-paired : (i : ℕ) (readings : List (ℕ × ℕ)) → ArePaired i sources readers readings
      → ArePaired (i + 1) sources readers (readings ++ (get_or readers i 0, get_or sources i 0) ∷ [])
  more-paired i readings before = record {
    long = length_push readings (get_or readers i 0, get_or sources i 0) ∙ ap (λ k. k + 1) before.long;
    at = λ k l. at k l (cases_eq k i);
  }
    where
      at : (k : ℕ) → k < i + 1 → (k ≡ i) ⊎ (k ≡ i → ⊥)
          → get_or (readings ++ (get_or readers i 0, get_or sources i 0) ∷ []) k (0, 0) ≡ (get_or readers k 0, get_or sources k 0)
      at k l (inl same) =
          get_or_push readings (get_or readers i 0, get_or sources i 0) (0, 0) k (before.long ∙ sym same)
          ∙ ap (λ (z : ℕ). (get_or readers z 0, get_or sources z 0)) (sym same)
      at k l (inr apart) =
          get_or_append_left readings ((get_or readers i 0, get_or sources i 0) ∷ []) (0, 0) k (omega (arith, l, apart, before.long))
          ∙ before.at k (omega (arith, l, apart))

  module _ (h : History) (key_index i : ℕ) (readings : List (ℕ × ℕ)) (all : i ≡ length readers) (long : length sources ≡ length readers)
      (to : (a c : ℕ) → Contains (zip sources readers) (a, c) → IsReadsPair h a c (key_at h key_index))
      (back : (a c : ℕ) → IsReadsPair h a c (key_at h key_index) → Contains (zip sources readers) (a, c)) (are : ArePaired i sources readers readings) where
    pub readings-paired : AreReadingsAt h key_index readings
    readings-paired = record { each = λ a c w. each a c w; all = λ a c p. found a c (zip-from sources readers long a c (back a c p)) }
      where
        each : (a c : ℕ) → Contains readings (c, a) → IsReadsPair h a c (key_at h key_index)
        each a c (k, l, e) =
            let inside : k < length sources = omega (arith, l, are.long, all, long) in
            let here : (get_or readers k 0, get_or sources k 0) ≡ (c, a) =
            sym (are.at k (omega (arith, l, are.long))) ∙ get_or_default readings k (0, 0) (c, a) l ∙ e in
            to a c (zip-at sources readers long k a c inside (get_or_default sources k a 0 inside ∙ ap (λ (z : ℕ × ℕ). z.1) here)
            (get_or_default readers k c 0 (omega (arith, inside, long)) ∙ ap (λ (z : ℕ × ℕ). z.0) here))

        found : (a c : ℕ) → (k : ℕ) × (k < length sources) × (get_or sources k a ≡ a) × (get_or readers k c ≡ c) → Contains readings (c, a)
        found a c (k, l, source, reader) =
            let inside : k < length readings = omega (arith, l, are.long, all, long) in (
              k,
              inside,
              get_or_default readings k (c, a) (0, 0) inside ∙ are.at k (omega (arith, inside, are.long))
                  ∙ ap (λ (z : ℕ). (z, get_or sources k 0)) (get_or_default readers k 0 c (omega (arith, l, long)) ∙ reader)
                  ∙ ap (λ (z : ℕ). (c, z)) (get_or_default sources k 0 a l ∙ source),
            )

    -- numbers of 16 bits hold the readers
    pub readers-fit : (n : ℕ) → count h ≤ n → All (λ (one : ℕ × ℕ). one.0 < n) readings
    readers-fit n few k d l =
        let inside : k < length readers = omega (arith, l, are.long, all) in
        let below : All (λ c. c < count h) readers = seconds-by (λ c. c < count h) sources readers long (λ a c w. (to a c w).1) in
        omega (
          arith,
          ap (λ (z : ℕ × ℕ). z.0) (get_or_default readings k d (0, 0) l ∙ are.at k (omega (arith, l, are.long))),
          below k 0 inside,
          few,
        )

-- ---- those of all keys

pub no-readings : (h : History) → AreReadingsTo 0 h []
no-readings h = record { long = refl; rows = λ key_index l. absurd (omega (arith, l)) }

pub more-readings : (i : ℕ) (h : History) (readings : List (Option (List (ℕ × ℕ)))) (more : Option (List (ℕ × ℕ))) → IfSome more (AreReadingsAt h i)
    → AreReadingsTo i h readings → AreReadingsTo (i + 1) h (readings ++ more ∷ [])
more-readings i h readings more here before = record {
  long = length_push readings more ∙ ap (λ k. k + 1) before.long;
  rows = λ key_index l. rows key_index l (cases_eq key_index i);
}
  where
    rows : (key_index : ℕ) → key_index < i + 1 → (key_index ≡ i) ⊎ (key_index ≡ i → ⊥) → IfSome (readings_at (readings ++ more ∷ []) key_index) (AreReadingsAt h key_index)
    rows key_index l (inl same) =
        rw (get_or_push readings more None key_index (before.long ∙ sym same)) (subst (λ (z : ℕ). IfSome more (AreReadingsAt h z)) (sym same) here)
    rows key_index l (inr apart) =
        let inside : key_index < length readings = omega (arith, l, apart, before.long) in
        rw (get_or_append_left readings (more ∷ []) None key_index inside) (before.rows key_index (omega (arith, l, apart)))

-- ---- the least for readers

-- the least number for the first of these readers, or nothing yet
pub record IsLeastFor (i : ℕ) (readers row : List ℕ) (least : ℕ) : Type 0 where
  pub low : (k : ℕ) → k < i → least ≤ get_or row (get_or readers k 0) 0
  pub from : (least ≡ unlinked) ⊎ ((k : ℕ) × (k < i) × (least ≡ get_or row (get_or readers k 0) 0))

module _ (readers row : List ℕ) where
  pub none-for : IsLeastFor 0 readers row unlinked
  none-for = record { low = λ k l. absurd (omega (arith, l)); from = inl refl }

  pub more-for : (i least : ℕ) → IsLeastFor i readers row least → IsLeastFor (i + 1) readers row (min least (get_or row (get_or readers i 0) 0))
  more-for i least before = record { low = λ k l. low k l (cases_eq k i); from = from (cases_lt (get_or row (get_or readers i 0) 0) least) before.from }
    where
      low : (k : ℕ) → k < i + 1 → (k ≡ i) ⊎ (k ≡ i → ⊥) → min least (get_or row (get_or readers i 0) 0) ≤ get_or row (get_or readers k 0) 0
      low k l (inl same) = omega (arith, ap (λ z. get_or row (get_or readers z 0) 0) same)
      low k l (inr apart) = omega (arith, before.low k (omega (arith, l, apart)))

      from : (get_or row (get_or readers i 0) 0 < least) ⊎ (least ≤ get_or row (get_or readers i 0) 0) → (least ≡ unlinked) ⊎ ((k : ℕ) × (k < i) × (least ≡ get_or row (get_or readers k 0) 0))
          → (min least (get_or row (get_or readers i 0) 0) ≡ unlinked) ⊎ ((k : ℕ) × (k < i + 1) × (min least (get_or row (get_or readers i 0) 0) ≡ get_or row (get_or readers k 0) 0))
      from (inl less) old = inr (i, omega arith, omega (arith, less))
      from (inr more) (inl none) = inl (omega (arith, more, none))
      from (inr more) (inr (k, l, is)) = inr (k, omega (arith, l), omega (arith, more, is))

  some-for : (i least : ℕ) → i ≤ length readers → (least ≡ unlinked) ⊎ ((k : ℕ) × (k < i) × (least ≡ get_or row (get_or readers k 0) 0))
      → (least ≡ unlinked) ⊎ ((c : ℕ) × Contains readers c × (least ≡ get_or row c 0))
  some-for i least upto (inl none) = inl none
  some-for i least upto (inr (k, l, is)) =
      inr (get_or readers k 0, (k, omega (arith, l, upto), get_or_default readers k _ 0 (omega (arith, l, upto))), is)

  abbrev Low : ℕ → Type 0
  Low least = (c : ℕ) → Contains readers c → least ≤ get_or row c 0

  abbrev From : ℕ → Type 0
  From least = (least ≡ unlinked) ⊎ ((c : ℕ) × Contains readers c × (least ≡ get_or row c 0))

  -- all were looked at
  pub all-for : (i least : ℕ) → i ≡ length readers → IsLeastFor i readers row least → Low least × From least
  all-for i least all are = (low, some-for i least (omega (arith, all)) are.from)
    where
      low : (c : ℕ) → Contains readers c → least ≤ get_or row c 0
      low c (k, l, is) = omega (
        arith,
        are.low k (omega (arith, l, all)),
        ap (λ z. get_or row z 0) (get_or_default readers k 0 c l ∙ is),
      )

  -- or one that is as low as any
  pub enough-for : (i least floor : ℕ) → i ≤ length readers → least ≤ floor → All (λ value. floor ≤ value) row
      → All (λ reader. reader < length row) readers → IsLeastFor i readers row least → Low least × From least
  enough-for i least floor upto enough bottom below are = (low, some-for i least upto are.from)
    where
      low : (c : ℕ) → Contains readers c → least ≤ get_or row c 0
      low c (k, l, is) =
          let inside : c < length row = omega (arith, below k c l, is) in
          omega (arith, bottom c 0 inside, enough)

-- ---- what it lowers

-- where there are readers, the least is one's
one-of : (readers row : List ℕ) (least : ℕ) → 0 < length readers → ((k : ℕ) → get_or row k 0 < 4294967296) → Low readers row least → From readers row least
    → (c : ℕ) × Contains readers c × (least ≡ get_or row c 0)
one-of readers row least some fits low (inr found) = found
one-of readers row least some fits low (inl none) =
    let first : Contains readers (get_or readers 0 0) = (0, some, get_or_default readers 0 _ 0 some) in
    (get_or readers 0 0, first, omega (arith, low (get_or readers 0 0) first, fits (get_or readers 0 0), none))

-- the weight of a source is lowered to the least for its readers
pub source-lowered : (source least : ℕ) (readers row weights : List ℕ) → source < length weights → 0 < length readers
    → ((k : ℕ) → get_or row k 0 < 4294967296) → Low readers row least → From readers row least
    → IsLowered (SourceWeighs source readers row) weights (set weights source (min (get_or weights source 0) least))
source-lowered source least readers row weights inside some fits low from =
    record { long = one.long; kept = one.kept; low = under; from = λ u l. found u (one.from u l) }
  where
    one : IsLowered (λ t z. (t ≡ source) × (z ≡ least)) weights (set weights source (min (get_or weights source 0) least))
    one = lowered_one weights source least inside

    is : (c : ℕ) × Contains readers c × (least ≡ get_or row c 0)
    is = one-of readers row least some fits low from

    under : (u w : ℕ) → u < length weights → SourceWeighs source readers row u w
        → get_or (set weights source (min (get_or weights source 0) least)) u 0 ≤ w
    under u w l (same, c, there, has) = omega (arith, one.low u least l (same, refl), low c there, has)

    found : (u : ℕ) → (get_or (set weights source (min (get_or weights source 0) least)) u 0 ≡ get_or weights u 0)
        ⊎ ((u ≡ source) × (get_or (set weights source (min (get_or weights source 0) least)) u 0 ≡ least))
        → (get_or (set weights source (min (get_or weights source 0) least)) u 0 ≡ get_or weights u 0)
        ⊎ SourceWeighs source readers row u (get_or (set weights source (min (get_or weights source 0) least)) u 0)
    found u (inl same) = inl same
    found u (inr (here, has)) = inr (here, is.0, is.1, has ∙ is.2)

-- what the first readings lower
abbrev pub SeenReading : ℕ → List (ℕ × ℕ) → List ℕ → ℕ → ℕ → ℕ → Type 0
SeenReading n readings row u v w =
    (v ≢ u) × (k : ℕ) × (k < n) × ((get_or readings k (0, 0)).1 ≡ v) × (w ≡ get_or row (get_or readings k (0, 0)).0 0)

module _ (readings : List (ℕ × ℕ)) (row : List ℕ) (u : ℕ) (old new : List ℕ) where
  pub no-reading : IsLowered (SeenReading 0 readings row u) old old
  no-reading = lowered_none _ old (λ v w s. absurd (omega (arith, s.2)))

  pub all-readings : (n : ℕ) → n ≡ length readings → IsLowered (SeenReading n readings row u) old new → IsLowered (ReadingWeighs readings row u) old new
  all-readings n all lowered = lowered_as _ _ old new to back lowered
    where
      to : (v w : ℕ) → SeenReading n readings row u v w → ReadingWeighs readings row u v w
      to v w (apart, k, l, is, has) =
          let inside : k < length readings = omega (arith, l, all) in (
            apart,
            (get_or readings k (0, 0)).0,
            (
              k,
              inside,
              get_or_default readings k _ (0, 0) inside ∙ ap (λ z. ((get_or readings k (0, 0)).0, z)) is,
            ),
            has,
          )

      back : (v w : ℕ) → ReadingWeighs readings row u v w → SeenReading n readings row u v w
      back v w (apart, c, (k, l, is), has) =
          let here : get_or readings k (0, 0) ≡ (c, v) = get_or_default readings k (0, 0) (c, v) l ∙ is in (
            apart,
            k,
            omega (arith, l, all),
            ap (λ (z : ℕ × ℕ). z.1) here,
            has ∙ ap (λ (z : ℕ × ℕ). get_or row z.0 0) (sym here),
          )

-- one more group
module _ (groups : List (ℕ × ℕ)) (members : List ℕ) (are : AreGroupsOf groups members) (row : List ℕ) (u i : ℕ) (run : List ℕ)
    (inside : i < length groups) (is : run ≡ take (group groups i).1 (drop (begin groups i) members)) (old now : List ℕ)
    (before : IsLowered (SeenReading (begin groups i) (links_by groups members) row u) old now) where
  abbrev links : List (ℕ × ℕ)
  links = links_by groups members

  -- what the readings before this group lower, those of it, and both
  abbrev Earlier : ℕ → ℕ → Type 0
  Earlier = SeenReading (begin groups i) links row u

  abbrev Here : ℕ → ℕ → Type 0
  Here = SourceWeighs (group groups i).0 run row

  abbrev Later : ℕ → ℕ → Type 0
  Later = SeenReading (begin groups i + (group groups i).1) links row u

  long : length run ≡ (group groups i).1
  long = run_long groups members are i run inside is

  split : (v w : ℕ) → Later v w → Earlier v w ⊎ ((v ≢ u) × Here v w)
  split v w (apart, k, l, source, has) = go (cases_lt k (begin groups i))
    where
      go : (k < begin groups i) ⊎ (begin groups i ≤ k) → Earlier v w ⊎ ((v ≢ u) × Here v w)
      go (inl less) = inl (apart, k, less, source, has)
      go (inr from) =
          let at = in_run groups members are i run inside is k from l in
          let short : k - begin groups i < length run = omega (arith, l, from, long) in
          inr (
            apart,
            (
              sym source ∙ ap (λ (z : ℕ × ℕ). z.1) at,
              get_or run (k - begin groups i) 0,
              (k - begin groups i, short, get_or_default run (k - begin groups i) _ 0 short),
              has ∙ ap (λ (z : ℕ × ℕ). get_or row z.0 0) at,
            ),
          )

  older : (v w : ℕ) → Earlier v w → Later v w
  older v w (apart, k, l, source, has) = (apart, k, omega (arith, l), source, has)

  pub group-passed : (group groups i).0 ≡ u → IsLowered Later old now
  group-passed same = lowered_as _ _ old now older (λ v w s. back v w (split v w s)) before
    where
      back : (v w : ℕ) → Earlier v w ⊎ ((v ≢ u) × Here v w) → Earlier v w
      back v w (inl s) = s
      back v w (inr (apart, more)) = absurd (apart (more.0 ∙ same))

  pub group-lowered : (newer : List ℕ) → (group groups i).0 ≢ u → IsLowered Here now newer → IsLowered Later old newer
  group-lowered newer other more = lowered_as _ _ old newer to (λ v w s. back v w (split v w s)) (lowered_then _ _ old now newer before more)
    where
      to : (v w : ℕ) → Earlier v w ⊎ Here v w → Later v w
      to v w (inl s) = older v w s
      to v w (inr (source, c, (k, l, e), has)) =
          let short : k < (group groups i).1 = omega (arith, l, long) in
          let at = at_run groups members are i run inside is k short in
          let reader : get_or run k 0 ≡ c = get_or_default run k 0 c l ∙ e in (
            (λ same. other (sym source ∙ same)),
            begin groups i + k,
            omega (arith, short),
            ap (λ (z : ℕ × ℕ). z.1) at ∙ sym source,
            has ∙ ap (λ z. get_or row z 0) (sym reader) ∙ ap (λ (z : ℕ × ℕ). get_or row z.0 0) (sym at),
          )

      back : (v w : ℕ) → Earlier v w ⊎ ((v ≢ u) × Here v w) → Earlier v w ⊎ Here v w
      back v w (inl s) = inl s
      back v w (inr (apart, more)) = inr more

-- each group is of some reader, and of a source
module _ (groups : List (ℕ × ℕ)) (members : List ℕ) (are : AreGroupsOf groups members) (i : ℕ) (run : List ℕ) (inside : i < length groups)
    (is : run ≡ take (group groups i).1 (drop (begin groups i) members)) where
  pub group-some : 0 < length run
  group-some = omega (arith, run_long groups members are i run inside is, are.some i (0, 0) inside)

pub group-source : (groups : List (ℕ × ℕ)) (members : List ℕ) → AreGroupsOf groups members → (i n : ℕ) → i < length groups
    → All (λ (reading : ℕ × ℕ). reading.1 < n) (links_by groups members) → (group groups i).0 < n
group-source groups members are i n inside below =
    omega (
      arith,
      below (begin groups i) (0, 0) (group_begins groups members are i inside),
      group_weight groups members are i inside,
    )

-- ---- the readings of a key, one after the other

abbrev pub SeenPair : ℕ → List ℕ → List ℕ → List ℕ → ℕ → ℕ → ℕ → Type 0
SeenPair i sources readers row u v w =
    (k : ℕ) × (k < i) × (get_or sources k 0 ≡ v) × (v ≢ u) × (w ≡ get_or row (get_or readers k 0) 0)

module _ (sources readers row : List ℕ) (u : ℕ) (old new : List ℕ) where
  pub no-pair : IsLowered (SeenPair 0 sources readers row u) old old
  no-pair = lowered_none _ old (λ v w s. absurd (omega (arith, s.1)))

  cases : (i v w : ℕ) → SeenPair (i + 1) sources readers row u v w
      → SeenPair i sources readers row u v w ⊎ ((get_or sources i 0 ≡ v) × (v ≢ u) × (w ≡ get_or row (get_or readers i 0) 0))
  cases i v w (k, l, is, apart, has) = go (cases_eq k i)
    where
      go : (k ≡ i) ⊎ (k ≡ i → ⊥) → SeenPair i sources readers row u v w ⊎ ((get_or sources i 0 ≡ v) × (v ≢ u) × (w ≡ get_or row (get_or readers i 0) 0))
      go (inl same) = inr (subst (λ (z : ℕ). get_or sources z 0 ≡ v) same is, apart, subst (λ (z : ℕ). w ≡ get_or row (get_or readers z 0) 0) same has)
      go (inr other) = inl (k, omega (arith, l, other), is, apart, has)

  pub pair-skipped : (i : ℕ) → get_or sources i 0 ≡ u → IsLowered (SeenPair i sources readers row u) old new
      → IsLowered (SeenPair (i + 1) sources readers row u) old new
  pair-skipped i same lowered = lowered_as _ _ old new (λ v w s. (s.0, omega (arith, s.1), s.2, s.3, s.4)) (λ v w s. back v w (cases i v w s)) lowered
    where
      back : (v w : ℕ) → SeenPair i sources readers row u v w ⊎ ((get_or sources i 0 ≡ v) × (v ≢ u) × (w ≡ get_or row (get_or readers i 0) 0))
          → SeenPair i sources readers row u v w
      back v w (inl s) = s
      back v w (inr (is, apart, has)) = absurd (apart (sym is ∙ same))

  pub pair-lowered : (i a n : ℕ) → get_or sources i 0 ≡ a → a ≢ u → n ≡ get_or row (get_or readers i 0) 0 → a < length new
      → IsLowered (SeenPair i sources readers row u) old new → IsLowered (SeenPair (i + 1) sources readers row u) old (set new a (min (get_or new a 0) n))
  pair-lowered i a n is apart has below lowered =
      one-lowered (SeenPair i sources readers row u) (SeenPair (i + 1) sources readers row u) old new lowered a n below to
      (λ v w s. back v w (cases i v w s))
    where
      to : (v w : ℕ) → SeenPair i sources readers row u v w ⊎ ((v ≡ a) × (w ≡ n)) → SeenPair (i + 1) sources readers row u v w
      to v w (inl s) = (s.0, omega (arith, s.1), s.2, s.3, s.4)
      to v w (inr s) = (i, omega arith, is ∙ sym s.0, (λ e. apart (sym s.0 ∙ e)), s.1 ∙ has)

      back : (v w : ℕ) → SeenPair i sources readers row u v w ⊎ ((get_or sources i 0 ≡ v) × (v ≢ u) × (w ≡ get_or row (get_or readers i 0) 0))
          → SeenPair i sources readers row u v w ⊎ ((v ≡ a) × (w ≡ n))
      back v w (inl s) = inl s
      back v w (inr (here, other, number)) = inr (sym here ∙ is, number ∙ sym has)

  pub all-pairs : (i : ℕ) → i ≡ length sources → IsLowered (SeenPair i sources readers row u) old new
      → IsLowered (PairWeighs sources readers row u) old new
  all-pairs i all lowered = subst (λ (z : ℕ). IsLowered (SeenPair z sources readers row u) old new) all lowered

-- ---- the keys that a transaction writes

-- the readings of a key are those of the list
pub pairs-there : (h : History) (row : List ℕ) (u k : ℕ) (sources readers old new : List ℕ) → length sources ≡ length readers
    → ((a c : ℕ) → Contains (zip sources readers) (a, c) → IsReadsPair h a c (key_at h k))
    → ((a c : ℕ) → IsReadsPair h a c (key_at h k) → Contains (zip sources readers) (a, c))
    → IsLowered (PairWeighs sources readers row u) old new → IsLowered (KeyWeighs h row u k) old new
pairs-there h row u k sources readers old new long to back = lowered_as _ _ old new there here
  where
    there : (v w : ℕ) → PairWeighs sources readers row u v w → KeyWeighs h row u k v w
    there v w (j, l, is, apart, has) =
        let inside : j < length readers = omega (arith, l, long) in (
          get_or readers j 0,
          to v (get_or readers j 0) (zip-at sources readers long j v (get_or readers j 0) l (get_or_default sources j v 0 l ∙ is)
              (get_or_default readers j _ 0 inside)),
          apart,
          has,
        )

    here : (v w : ℕ) → KeyWeighs h row u k v w → PairWeighs sources readers row u v w
    here v w (c, reads, apart, has) =
        let at = zip-from sources readers long v c (back v c reads) in (
          at.0,
          at.1,
          get_or_default sources at.0 0 v at.1 ∙ at.2,
          apart,
          has
              ∙ ap (λ z. get_or row z 0) (sym (get_or_default readers at.0 0 c (omega (arith, at.1, long)) ∙ at.3)),
        )

abbrev pub SeenKey : ℕ → History → List ℕ → List ℕ → ℕ → ℕ → ℕ → Type 0
SeenKey i h written row u v w = (j : ℕ) × (j < i) × KeyWeighs h row u (get_or written j 0) v w

module _ (h : History) (written row : List ℕ) (u : ℕ) (old new : List ℕ) where
  pub no-key_index : IsLowered (SeenKey 0 h written row u) old old
  no-key_index = lowered_none _ old (λ v w s. absurd (omega (arith, s.1)))

  pub one-key_index : (i k : ℕ) (newer : List ℕ) → get_or written i 0 ≡ k → IsLowered (SeenKey i h written row u) old new
      → IsLowered (KeyWeighs h row u k) new newer → IsLowered (SeenKey (i + 1) h written row u) old newer
  one-key_index i k newer is before more = lowered_as _ _ old newer to (λ v w s. back v w s (cases_eq s.0 i)) (lowered_then _ _ old new newer before more)
    where
      to : (v w : ℕ) → SeenKey i h written row u v w ⊎ KeyWeighs h row u k v w → SeenKey (i + 1) h written row u v w
      to v w (inl s) = (s.0, omega (arith, s.1), s.2)
      to v w (inr s) = (i, omega arith, subst (λ (z : ℕ). KeyWeighs h row u z v w) (sym is) s)

      back : (v w : ℕ) (s : SeenKey (i + 1) h written row u v w) → (s.0 ≡ i) ⊎ (s.0 ≡ i → ⊥) → SeenKey i h written row u v w ⊎ KeyWeighs h row u k v w
      back v w s (inl same) = inr (subst (λ (z : ℕ). KeyWeighs h row u z v w) (ap (λ z. get_or written z 0) same ∙ is) s.2)
      back v w s (inr apart) = inl (s.0, omega (arith, s.1, apart), s.2)

  pub all-written : (i : ℕ) → i ≡ length written → IsLowered (SeenKey i h written row u) old new → IsLowered (KeysWeigh h written row u) old new
  all-written i all lowered = lowered_as _ _ old new
      (λ v w s. (get_or written s.0 0, (s.0, omega (arith, s.1, all), get_or_default written s.0 _ 0 (omega (arith, s.1, all))), s.2))
      (λ v w s. (
        s.1.0,
        omega (arith, s.1.1, all),
        subst (λ (z : ℕ). KeyWeighs h row u z v w) (sym (get_or_default written s.1.0 0 s.0 s.1.1 ∙ s.1.2)) s.2,
      ))
      lowered

  -- the keys that u writes, by their indices
  pub written-written : (u ≡ 0 → ⊥) → u < count h → map (key_at h) written ≡ (entry_at h u).writes → IsLowered (KeysWeigh h written row u) old new
      → IsLowered (ContradictsBy h row u) old new
  written-written other below are lowered = lowered_as _ _ old new to back lowered
    where
      to : (v w : ℕ) → KeysWeigh h written row u v w → ContradictsBy h row u v w
      to v w (k, there, weighs) =
          let named : Contains (entry_at h u).writes (key_at h k) =
          subst (λ (names : List (List ℕ)). Contains names (key_at h k)) are (in_map (key_at h) written k there) in
          let writer = or_right _ _ (contains-has_name (entry_at h u).writes (key_at h k) named) in
          (key_at h k, weighs.0, ((λ e. weighs.2 (sym e)), weighs.1, (below, writer)), weighs.3)

      back : (v w : ℕ) → ContradictsBy h row u v w → KeysWeigh h written row u v w
      back v w (x, c, (apart, reads, (inside, writer)), has) =
          let at = from_map (key_at h) written x (subst (λ (names : List (List ℕ)). Contains names x) (sym are) (named (or_cases _ _ writer))) in
          (at.0, at.1, (c, subst (λ (z : List ℕ). IsReadsPair h v c z) (sym at.2) reads, (λ e. apart (sym e)), has))
        where
          named : (eqb u 0 ≡ true) ⊎ (has_name (entry_at h u).writes x ≡ true) → Contains (entry_at h u).writes x
          named (inl zeroth) = absurd (other (eqb-true u 0 zeroth))
          named (inr e) = has_name-contains (entry_at h u).writes x e

-- the readings in groups are those of the key
pub groups-there : (h : History) (row : List ℕ) (u k : ℕ) (readings : List (ℕ × ℕ)) (old new : List ℕ) → AreReadingsAt h k readings
    → IsLowered (ReadingWeighs readings row u) old new → IsLowered (KeyWeighs h row u k) old new
groups-there h row u k readings old new are = lowered_as (ReadingWeighs readings row u) (KeyWeighs h row u k) old new
    (λ v w s. (s.1, are.each v s.1 s.2, s.0, s.3))
    (λ v w s. (s.2, s.0, are.all v s.0 s.1, s.3))

-- the ends of readings are transactions
module _ (h : History) (key_index : ℕ) (readings : List (ℕ × ℕ)) (are : AreReadingsAt h key_index readings) where
  pair-at : (j : ℕ) (e : ℕ × ℕ) → j < length readings → IsReadsPair h (get_or readings j e).1 (get_or readings j e).0 (key_at h key_index)
  pair-at j e m = are.each _ _ (j, m, get_or_default readings j _ e m)

  pub sources-below : (n : ℕ) → n ≡ count h → All (λ (reading : ℕ × ℕ). reading.1 < n) readings
  sources-below n is j e m = omega (arith, is, (pair-at j e m).0)

  pub readers-below : (n : ℕ) → n ≡ count h → All (λ (reading : ℕ × ℕ). reading.0 < n) readings
  readers-below n is j e m = omega (arith, is, (pair-at j e m).1)
