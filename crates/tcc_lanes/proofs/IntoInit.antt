-- Lanes of keys: where they begin, and where they are read from `init`.
use Rattle.std.proofs.Common.{◌≡◌, ◌≢◌, ◌<◌, ◌≤◌, ◌+◌, ◌-◌, ◌↔◌, ◌⊎◌, inl, inr, ℕ, true, List, length, get_or, set, replicate, slice_index, length-set, refl, sym, ap, subst, ◌∙◌, arith}
use Rattle.std.specs.List.{All, Contains}
use Rattle.std.proofs.lemmas.Bool.{cases_eq, cases_lt}
use Rattle.std.proofs.lemmas.List.{get_or-set_other, get_or-set_same, get_or_default, length-replicate}
use Rattle.std.proofs.lemmas.List.Elements.{Contains-get_or}
use Rattle.tcc_reads.specs.History.{History, count}
use Rattle.tcc_graph.specs.Keys.{keys, key_at, writes}
use Rattle.tcc_graph.specs.Levels.{Judged, judged}
use Rattle.tcc_graph.specs.Links.{IsReason}
use Rattle.tcc_graph.specs.Relations.{IsReadsPair}
use Rattle.tcc_graph.specs.declared.level.Level.{Level}
use Rattle.tcc_graph.proofs.Walking.{walk_below}
use Rattle.tcc_least.proofs.ReadLemmas.{AreReadsAt, is_read, read_is}
use Rattle.tcc_lanes.specs.Among.{ComesIntoInit, HasCheaperIntoInit, IsLowestIntoInit}
use Rattle.tcc_lanes.specs.declared.words.TheConstants.{LANES}
use Rattle.tcc_lanes.specs.private.Marks.{HasLane, IsAt, AreMarksOf}
use Rattle.tcc_lanes.specs.private.Walks.{AreWalked}
use Rattle.tcc_lanes.specs.private.IntoInit.{AreBegun, HasIntoInit, IsIntoInit, IsLowestInto, IsMetByInit, IsReadOfInit, IsWrittenBy, LeadsIntoInit}
use Rattle.tcc_lanes.proofs.MarkLemmas.{key_of_read}
use Rattle.tcc_lanes.specs.private.Tiles.{IsTile}
use Rattle.tcc_lanes.proofs.WordLemmas.{AreJoined, zeros_nowhere}

-- ---- the lanes of the keys that a transaction writes
pub joined_all : (h : History) (key_lanes key_indices : List ℕ) (v : ℕ) → All (λ k. k < length (keys h)) key_indices
    → ((k : ℕ) → k < length (keys h) → Contains key_indices k ↔ (writes h v (key_at h k) ≡ true)) → (n word : ℕ) → length key_indices ≡ n
    → AreJoined key_lanes (λ m. get_or key_indices m 0) n word → (i : ℕ) → i < LANES → HasLane word i ↔ IsWrittenBy h key_lanes v i
joined_all h key_lanes key_indices v inside written n word all w = λ i l. (there i l, back i l)
  where
    there : (i : ℕ) → i < LANES → HasLane word i → IsWrittenBy h key_lanes v i
    there i l has =
        let (m, less, at) = (w i l).0 has in
        let within = inside m 0 (omega (arith, less, all)) in
        (get_or key_indices m 0, within, (written (get_or key_indices m 0) within).0 (Contains-get_or key_indices m 0 (omega (arith, less, all))), at)

    back : (i : ℕ) → i < LANES → IsWrittenBy h key_lanes v i → HasLane word i
    back i l (k, within, is, at) =
        let (m, inside_m, here) = (written k within).1 is in
        (w i l).1 (m, omega (arith, inside_m, all), subst (λ (z : ℕ). IsAt key_lanes z i) (sym (get_or_default key_indices m 0 k inside_m ∙ here)) at)

-- ---- the writers of the keys
-- the transactions before `end` are marked with the lanes whose keys they write
abbrev pub AreBegunTo : History → List ℕ → ℕ → List ℕ → Type 0
AreBegunTo h key_lanes end begun =
    (length begun ≡ count h)
    × ((v i : ℕ) → v < count h → i < LANES → IsAt begun v i ↔ ((0 < v) × (v < end) × IsWrittenBy h key_lanes v i))

pub begun_none : (h : History) (key_lanes : List ℕ) → AreBegunTo h key_lanes 1 (replicate (count h) 0)
begun_none h key_lanes = (
  length-replicate {A = ℕ} (count h) 0,
  λ v i below l. ((λ at. absurd (zeros_nowhere (count h) v i at)), λ w. absurd (omega (arith, w.0, w.1))),
)

pub begun_more : (h : History) (key_lanes : List ℕ) (k word : ℕ) (begun : List ℕ) → 0 < k → k < count h
    → ((i : ℕ) → i < LANES → HasLane word i ↔ IsWrittenBy h key_lanes k i) → AreBegunTo h key_lanes k begun → AreBegunTo h key_lanes (k + 1) (set begun k word)
begun_more h key_lanes k word begun some below each w = (length-set begun k word ∙ w.0, λ v i l m. at v i l m (cases_eq v k))
  where
    at : (v i : ℕ) → v < count h → i < LANES → (v ≡ k) ⊎ (v ≢ k) → IsAt (set begun k word) v i ↔ ((0 < v) × (v < k + 1) × IsWrittenBy h key_lanes v i)
    at v i l m (inl same) =
        rw (same, get_or-set_same begun k word 0 (omega (arith, below, w.0))) ((λ has. (some, omega arith, (each i m).0 has)), λ is. (each i m).1 is.2)
    at v i l m (inr other) = rw (get_or-set_other begun k v word 0 other) (
      (λ has. let is = (w.1 v i l m).0 has in (is.0, omega (arith, is.1), is.2)),
      λ is. (w.1 v i l m).1 (is.0, omega (arith, is.1, other), is.2),
    )

pub begun_all : (h : History) (key_lanes : List ℕ) (end n : ℕ) (begun : List ℕ) → end ≤ n → n ≤ end → AreBegunTo h key_lanes n begun → AreBegun h key_lanes end begun
begun_all h key_lanes end n begun all low w = record {
  long = w.0;
  each = λ v i l m.
      ((λ has. let is = (w.1 v i l m).0 has in (is.0, omega (arith, is.1, low), is.2)), λ is. (w.1 v i l m).1 (is.0, omega (arith, is.1, all), is.2));
}

-- ---- where they are read from `init`
-- none of the first reads is such a read
abbrev pub NoneRead : List ℕ → ℕ → List (ℕ × ℕ) → ℕ → Type 0
NoneRead key_lanes word reads end =
    (n : ℕ) → n < end → (get_or reads n (0, 0)).1 ≡ 0 → (i : ℕ) → i < LANES → HasLane word i → IsAt key_lanes (get_or reads n (0, 0)).0 i → ⊥

module _ (h : History) (key_lanes : List ℕ) (word reader : ℕ) (reads : List (ℕ × ℕ)) (are : AreReadsAt h reader reads) (below : reader < count h) where
  pub read_there : (n : ℕ) → n < length reads → (get_or reads n (0, 0)).1 ≡ 0
      → (i : ℕ) × (i < LANES) × HasLane word i × IsAt key_lanes (get_or reads n (0, 0)).0 i → IsReadOfInit h key_lanes word reader
  read_there n inside initial (i, lane, has, at) =
      let read : ℕ × ℕ = get_or reads n (0, 0) in (
        i,
        lane,
        has,
        read.0,
        (are.within n (0, 0) inside).0,
        subst (λ (z : ℕ). IsReadsPair h z reader (key_at h read.0)) initial (is_read h reader reads are read (Contains-get_or reads n (0, 0) inside) below),
        at,
      )

  pub none_there : (n : ℕ) → length reads ≤ n → NoneRead key_lanes word reads n → IsReadOfInit h key_lanes word reader → ⊥
  none_there n all none (i, lane, has, k, inside, pair, at) = go (read_is h reader reads are 0 (key_at h k) pair)
    where
      go : (read : ℕ × ℕ) × Contains reads read × (read.1 ≡ 0) × (key_at h read.0 ≡ key_at h k) → ⊥
      go (read, (m, within, is), initial, key) =
          none m (omega (arith, within, all)) (ap (λ (r : ℕ × ℕ). r.1) here ∙ initial) i lane has
          (subst (λ (z : ℕ). IsAt key_lanes z i) (sym (key_of_read h reader reads are m k within inside (ap (λ (r : ℕ × ℕ). key_at h r.0) here ∙ key))) at)
        where
          here : get_or reads m (0, 0) ≡ read
          here = get_or_default reads m (0, 0) read within ∙ is

-- ---- some keys together
module _ (h : History) (level : Level) (most end : ℕ) (tile key_lanes begun reached : List ℕ) (inside : All (λ k. k < length (keys h)) tile) (lanes : length tile ≤ LANES)
    (marks : AreMarksOf (length (keys h)) tile (length tile) key_lanes) (begins : AreBegun h key_lanes end begun) (walked : AreWalked (judged h level) begun most reached) where
  pub met : IsMetByInit h key_lanes reached → HasIntoInit (judged h level) most end tile
  met (reader, below, (i, lane, has, k, within, pair, at)) =
      let (start, walk, from, is, short) = (walked reader i below lane).0 has in
      let (some, early, (key, inside_key, writer, key_at_lane)) = (begins.each start i (walk_below h start reader walk is.0).0 lane).0 from in
      let (listed, here) = (marks.each k i within lane).0 at in
      let (_, there) = (marks.each key i inside_key lane).0 key_at_lane in (
        i,
        listed,
        (
          start,
          early,
          (
            reader,
            walk,
            (
              (
                omega (arith, some),
                subst (λ (z : ℕ). IsReadsPair h 0 reader (key_at h z)) (sym here) pair,
                ((walk_below h start reader walk is.0).0, subst (λ (z : ℕ). writes h start (key_at h z) ≡ true) (sym there) writer),
              ),
              is,
            ),
            short,
          ),
        ),
      )

  pub is_met : HasIntoInit (judged h level) most end tile → IsMetByInit h key_lanes reached
  is_met (i, listed, (b, early, (c, walk, reason, short))) =
      let k = get_or tile i 0 in
      let within = inside i 0 listed in
      let lane : i < LANES = omega (arith, listed, lanes) in
      let at : IsAt key_lanes k i = (marks.each k i within lane).1 (listed, refl) in
      let from : IsAt begun b i = (begins.each b i reason.0.2.0 lane).1 (omega (arith, reason.0.0), early, (k, within, reason.0.2.1, at)) in
      (c, reason.0.1.1, (i, lane, (walked c i reason.0.1.1 lane).1 (b, walk, from, reason.1, short), k, within, reason.0.1, at))

-- ---- all keys
abbrev pub NoneTo : Judged → ℕ → ℕ → List ℕ → ℕ → Type 0
NoneTo j longest bound key_indices end = (n : ℕ) → n < end → n < length key_indices → IsIntoInit j longest bound (get_or key_indices n 0) → ⊥

module _ (j : Judged) (most longest : ℕ) (key_indices : List ℕ) (is : longest ≡ most - 3) where
  comes : (n b : ℕ) → n < length key_indices → LeadsIntoInit j longest (get_or key_indices n 0) b → ComesIntoInit j key_indices most b
  comes n b inside (c, walk, reason, short) =
      (get_or key_indices n 0, c, walk, Contains-get_or key_indices n 0 inside, reason, omega (arith, short, is, reason.1.0.0))

  leads : (b : ℕ) → ComesIntoInit j key_indices most b → (n : ℕ) × (n < length key_indices) × LeadsIntoInit j longest (get_or key_indices n 0) b
  leads b (k, c, walk, (n, inside, here), reason, cheap) = (
    n,
    inside,
    (
      c,
      walk,
      subst (λ (z : ℕ). IsReason j b 0 (key_at j.history z) c walk) (sym (get_or_default key_indices n 0 k inside ∙ here)) reason,
      omega (arith, cheap, is),
    ),
  )

  module _ (bound from last : ℕ) (tile : List ℕ) (tiled : IsTile key_indices from last tile) where
    pub in_tile : HasIntoInit j longest bound tile → HasCheaperIntoInit j key_indices most
    in_tile (i, inside, (b, early, into)) =
        (b, comes (from + i) b (omega (arith, inside, tiled.long)) (subst (λ (z : ℕ). LeadsIntoInit j longest z b) (tiled.each i inside) into))

    pub none_more : (HasIntoInit j longest bound tile → ⊥) → NoneTo j longest bound key_indices from → NoneTo j longest bound key_indices last
    none_more none before n less inside into = go (cases_lt n from)
      where
        go : (n < from) ⊎ (from ≤ n) → ⊥
        go (inl early) = before n early inside into
        go (inr late) =
            let within : n - from < length tile = omega (arith, tiled.long, less, inside, late) in
            let back : from + (n - from) ≡ n = omega (arith, late) in
            none (n - from, within, subst (λ (z : ℕ). IsIntoInit j longest bound z) (sym (tiled.each (n - from) within ∙ ap (λ (m : ℕ). get_or key_indices m 0) back)) into)

    -- the lowest of a tile, below the one found before
    pub here_comes : (low : ℕ) → (n : ℕ) × (n < length tile) × LeadsIntoInit j longest (slice_index tile n) low → ComesIntoInit j key_indices most low
    here_comes low (i, inside, into) =
        comes (from + i) low (omega (arith, inside, tiled.long)) (subst (λ (z : ℕ). LeadsIntoInit j longest z low) (tiled.each i inside) into)

  pub none_left : (bound end : ℕ) → bound ≡ count j.history → length key_indices ≤ end → NoneTo j longest bound key_indices end → HasCheaperIntoInit j key_indices most → ⊥
  none_left bound end whole all none (b, come) = go (leads b come)
    where
      go : (n : ℕ) × (n < length key_indices) × LeadsIntoInit j longest (get_or key_indices n 0) b → ⊥
      go (n, inside, (c, walk, reason, short)) = none n (omega (arith, inside, all)) inside (b, omega (arith, reason.0.2.0, whole), (c, walk, reason, short))

  pub none_lower : (bound end : ℕ) → length key_indices ≤ end → NoneTo j longest bound key_indices end → (w : ℕ) → ComesIntoInit j key_indices most w → bound ≤ w
  none_lower bound end all none w come = go (cases_lt w bound) (leads w come)
    where
      go : (w < bound) ⊎ (bound ≤ w) → (n : ℕ) × (n < length key_indices) × LeadsIntoInit j longest (get_or key_indices n 0) w → bound ≤ w
      go (inl less) (n, inside, into) = absurd (none n (omega (arith, inside, all)) inside (w, less, into))
      go (inr enough) _ = enough

-- none from before an earlier end
pub none_before : (j : Judged) (longest bound lower : ℕ) (key_indices : List ℕ) (end : ℕ) → lower ≤ bound → NoneTo j longest bound key_indices end → NoneTo j longest lower key_indices end
none_before j longest bound lower key_indices end less none n early inside (b, low, into) = none n early inside (b, omega (arith, low, less), into)

-- none of the first keys leads there from before low; and low is the end of all, or leads there
pub record IsLowestTo (j : Judged) (most longest : ℕ) (key_indices : List ℕ) (end low : ℕ) : Type 0 where
  pub some : 0 < low
  pub within : low ≤ count j.history
  pub none : NoneTo j longest low key_indices end
  pub here : low < count j.history → ComesIntoInit j key_indices most low

module _ (j : Judged) (most longest : ℕ) (key_indices : List ℕ) (is : longest ≡ most - 3) where
  pub lowest_none : 0 < count j.history → IsLowestTo j most longest key_indices 0 (count j.history)
  lowest_none some = record { some = some; within = omega arith; none = λ n less. absurd (omega (arith, less)); here = λ less. absurd (omega (arith, less)) }

  pub lowest_more : (from last low lower : ℕ) (tile : List ℕ) → IsTile key_indices from last tile → IsLowestTo j most longest key_indices from low
      → IsLowestInto j longest low tile lower → IsLowestTo j most longest key_indices last lower
  lowest_more from last low lower tile tiled before w = record {
    some = w.some;
    within = omega (arith, before.within, w.within);
    none = none_more j most longest key_indices is lower from last tile tiled w.none
        (none_before j longest low lower key_indices from w.within before.none);
    here = λ less. by less (cases_lt lower low);
  }
    where
      by : lower < count j.history → (lower < low) ⊎ (low ≤ lower) → ComesIntoInit j key_indices most lower
      by less (inl new) = here_comes j most longest key_indices is lower from last tile tiled lower (w.here new)
      by less (inr enough) =
          let same : low ≡ lower = omega (arith, enough, w.within) in
          subst (λ (z : ℕ). ComesIntoInit j key_indices most z) same (before.here (omega (arith, less, same)))

  module _ (end low : ℕ) (all : length key_indices ≤ end) (w : IsLowestTo j most longest key_indices end low) where
    pub lowest_found : low ≢ count j.history → IsLowestIntoInit j key_indices most low
    lowest_found other = (w.here (omega (arith, w.within, other)), none_lower j most longest key_indices is low end all w.none)

    pub lowest_missed : low ≡ count j.history → HasCheaperIntoInit j key_indices most → ⊥
    lowest_missed whole = none_left j most longest key_indices is low end whole all w.none

-- ---- halving
-- none leads there from before low, and one does from before high; the two come nearer with each turn
pub record AreHalved (j : Judged) (most end : ℕ) (key_indices : List ℕ) (turn low high : ℕ) : Type 0 where
  pub some : 0 < low
  pub apart : low < high
  pub within : high ≤ end
  pub near : high - low + turn ≤ end
  pub none : HasIntoInit j most low key_indices → ⊥
  pub has : HasIntoInit j most high key_indices

-- none leads there from `init`
pub none_from_init : (j : Judged) (most : ℕ) (key_indices : List ℕ) → HasIntoInit j most 1 key_indices → ⊥
none_from_init j most key_indices (n, inside, (b, early, (c, walk, reason, short))) = omega (arith, early, reason.0.0)

pub halving : (j : Judged) (most end : ℕ) (key_indices : List ℕ) → HasIntoInit j most end key_indices → AreHalved j most end key_indices 1 1 end
halving j most end key_indices (n, inside, (b, early, (c, walk, reason, short))) = record {
  some = omega arith;
  apart = omega (arith, early, reason.0.0);
  within = omega arith;
  near = omega (arith, early, reason.0.0);
  none = none_from_init j most key_indices;
  has = (n, inside, (b, early, (c, walk, reason, short)));
}

pub halved : (j : Judged) (most end : ℕ) (key_indices : List ℕ) (turn low high : ℕ) → AreHalved j most end key_indices turn low high → high - low ≤ 1
    → IsLowestInto j most end key_indices low
halved j most end key_indices turn low high w near = record { some = w.some; within = omega (arith, w.apart, w.within); none = w.none; here = λ less. go w.has }
  where
    go : HasIntoInit j most high key_indices → (n : ℕ) × (n < length key_indices) × LeadsIntoInit j most (slice_index key_indices n) low
    go (n, inside, (b, early, into)) = by (cases_lt b low)
      where
        by : (b < low) ⊎ (low ≤ b) → (n : ℕ) × (n < length key_indices) × LeadsIntoInit j most (slice_index key_indices n) low
        by (inl less) = absurd (w.none (n, inside, (b, less, into)))
        by (inr enough) =
            let same : b ≡ low = omega (arith, enough, early, near, w.apart) in
            (n, inside, subst (λ (z : ℕ). LeadsIntoInit j most (slice_index key_indices n) z) same into)

module _ (j : Judged) (most end : ℕ) (key_indices : List ℕ) (turn low high middle : ℕ) (w : AreHalved j most end key_indices turn low high) (l : low < middle) (m : middle < high) where
  pub halved_down : HasIntoInit j most middle key_indices → AreHalved j most end key_indices (turn + 1) low middle
  halved_down has = record { some = w.some; apart = l; within = omega (arith, m, w.within); near = omega (arith, l, m, w.near); none = w.none; has = has }

  pub halved_up : (HasIntoInit j most middle key_indices → ⊥) → AreHalved j most end key_indices (turn + 1) middle high
  halved_up none = record { some = omega (arith, l); apart = m; within = w.within; near = omega (arith, l, m, w.near); none = none; has = w.has }

-- ---- halving of costs
-- nothing costs less than low, and something costs less than high; the two come nearer with each turn
pub record AreCostsHalved (Has : ℕ → Type 0) (most turn low high : ℕ) : Type 0 where
  pub apart : low < high
  pub within : high ≤ most
  pub near : high - low + turn ≤ most
  pub none : Has low → ⊥
  pub has : Has high

-- nothing costs less than 0
pub costs_halving : (j : Judged) (most : ℕ) (key_indices : List ℕ) → HasCheaperIntoInit j key_indices most
    → AreCostsHalved (HasCheaperIntoInit j key_indices) most 0 0 most
costs_halving j most key_indices (b, (k, c, walk, there, reason, few)) = record {
  apart = omega (arith, few);
  within = omega arith;
  near = omega arith;
  none = λ (u, (key, reader, other, listed, is, less)). omega (arith, less);
  has = (b, (k, c, walk, there, reason, few));
}

pub costs_halved : (Has : ℕ → Type 0) (most turn low high : ℕ) → AreCostsHalved Has most turn low high → high - low ≤ 1 → (low < most) × Has (low + 1) × (Has low → ⊥)
costs_halved Has most turn low high w near = (omega (arith, w.apart, w.within), subst Has (same w.apart) w.has, w.none)
  where
    same : low < high → high ≡ low + 1
    same apart = omega (arith, apart, near)

module _ (Has : ℕ → Type 0) (most turn low high middle : ℕ) (w : AreCostsHalved Has most turn low high) (l : low < middle) (m : middle < high) where
  pub costs_down : Has middle → AreCostsHalved Has most (turn + 1) low middle
  costs_down has = record { apart = l; within = omega (arith, m, w.within); near = omega (arith, l, m, w.near); none = w.none; has = has }

  pub costs_up : (Has middle → ⊥) → AreCostsHalved Has most (turn + 1) middle high
  costs_up none = record { apart = m; within = w.within; near = omega (arith, l, m, w.near); none = none; has = w.has }
