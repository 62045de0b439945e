-- Which numbers have a session pair from a transaction: those after it up to the end of its session.
use Rattle.std.proofs.Common.{ℕ, ◌+◌, ◌<◌, ◌≤◌, ◌≡◌, ◌⊎◌, inl, inr, true, false, List, length, map, get_or, sym, ap, arith}
use Rattle.std.specs.Prelude.{nat_le, ◌↔◌}
use Rattle.std.specs.List.Sorted.{IsPartitionPoint, IsPartitionedBy, IsNonDecreasingBy}
use Rattle.std.proofs.lemmas.List.Sorted.{IsPartitionedBy-leb, IsNonDecreasingBy-from_default}
use Rattle.std.proofs.Math.Nat.{lt_of_not-le}
use Rattle.std.proofs.lemmas.Bool.{cases_lt, leb-true, leb-false}
use Rattle.std.proofs.lemmas.List.{get_or-map, length-map}
use Rattle.tcc_reads.specs.History.{History, IsBySession, count, owner, place}
use Rattle.tcc_graph.specs.Relations.{IsSessionPair}
use Rattle.tcc_reads.specs.Indexed.{Indexed, entries_of, indexed_of, unindexed}
use Rattle.tcc_graph.specs.private.ReadTables.{history_of}
use Rattle.tcc_graph.proofs.IndexedLemmas.{count_is, owner_is}
use Rattle.tcc_graph.proofs.Pairs.{PairParts, pair_parts, lower_first, initial_pair}

-- from `init` there is one to each later number
pub all_later : (h : History) (v : ℕ) → 0 < count h → IsSessionPair h 0 v ↔ ((1 ≤ v) × (v < count h))
all_later h v some = (
  (λ p. let parts = pair_parts h 0 v p in let more = parts.some in let below = parts.to in (omega arith, omega arith)),
  (λ w. initial_pair h 0 v (omega arith) some (omega (arith, w.0)) w.1),
)

-- numbers below `end` are of no later session than u, and those from `end` on are of a later one
module _ (h : History) (ordered : IsBySession h.entries) (u end : ℕ) (some : 0 < u) (below : u < count h) (within : end ≤ count h)
    (before : (k : ℕ) → k < end → owner h k ≤ owner h u) (after : (k : ℕ) → end ≤ k → k < count h → owner h u < owner h k) where
  past : u < end
  past = lt_of_not-le (λ more. let over : owner h u < owner h u = after u more below in omega arith)

  inside : (v : ℕ) → IsSessionPair h u v → v < end
  inside v p = lt_of_not-le (λ more.
      let parts : PairParts h u v = pair_parts h u v p in
      let over : owner h u < owner h v = after v more parts.to in
      omega (arith, parts.same some))

  over_it : (v : ℕ) → IsSessionPair h u v → u < v
  over_it v p = go (cases_lt u v)
    where
      parts : PairParts h u v
      parts = pair_parts h u v p

      lower : place h u < place h v
      lower = parts.lower some

      go : (u < v) ⊎ (v ≤ u) → u < v
      go (inl less) = less
      go (inr more) = go' (cases_lt v u)
        where
          go' : (v < u) ⊎ (u ≤ v) → u < v
          go' (inl less) = let back : place h v < place h u = (ordered v u less below).1 (sym (parts.same some)) in absurd (omega (arith, lower, back))
          go' (inr equal) = let same : u ≡ v = omega (arith, more, equal) in let itself : place h u ≡ place h v =
              ap (λ n. place h n) same in absurd (omega (arith, lower, itself))

  later : (v : ℕ) → IsSessionPair h u v ↔ ((u + 1 ≤ v) × (v < end))
  later v = (
    (λ p. let less = over_it v p in (omega (arith, less), inside v p)),
    (λ w.
        let less : u < v = omega (arith, w.0) in
        let bound : v < count h = omega (arith, w.1) in
        let rises = ordered u v less bound in
        let back = before v w.1 in
        let same : owner h u ≡ owner h v = omega (arith, rises.0, back) in
        lower_first h u v some below (omega arith) bound same (rises.1 same)),
  )

-- the session of a transaction, by the list that a search goes through
module _ (sessions names : List (List ℕ)) (indexed : List Indexed) (ordered : IsBySession (entries_of names indexed)) where
  abbrev h : History
  h = history_of sessions names indexed

  abbrev places : List (ℕ × ℕ)
  places = map {B = ℕ × ℕ} (λ p. (p.owner, p.place)) indexed

  place_is : (k : ℕ) → k < length indexed → (get_or places k (0, 0)).0 ≡ (indexed_of indexed k).owner
  place_is k inside = ap (λ (p : ℕ × ℕ). p.0) (get_or-map {Y = ℕ × ℕ} (λ p. (p.owner, p.place)) indexed k unindexed (0, 0) inside)

  long_places : length places ≡ length indexed
  long_places = length-map {B = ℕ × ℕ} indexed (λ (p : Indexed). (p.owner, p.place))

  owners_rise : IsNonDecreasingBy (λ (p : ℕ × ℕ). p.0) places
  owners_rise = IsNonDecreasingBy-from_default (λ (p : ℕ × ℕ). p.0) places (0, 0) (λ i j upto below.
      let inside : j < length indexed = omega (arith, below, long_places) in
      rw (place_is i (omega (arith, inside, upto)), place_is j inside) (go i j inside (cases_lt i j) upto))
    where
      go : (i j : ℕ) → j < length indexed → (i < j) ⊎ (j ≤ i) → i ≤ j → (indexed_of indexed i).owner ≤ (indexed_of indexed j).owner
      go i j below (inl less) upto =
          let rises = (ordered i j less (omega (arith, below, count_is names indexed))).0 in
          rw (← owner_is sessions names indexed i, ← owner_is sessions names indexed j) rises
      go i j below (inr more) upto = let same : i ≡ j = omega (arith, more, upto) in omega (arith, ap (λ n. (indexed_of indexed n).owner) same)

  -- what a search for the first transaction of a later session requires
  pub parted : (mine : ℕ) → IsPartitionedBy (λ (p : ℕ × ℕ). nat_le p.0 mine) places
  parted mine = IsPartitionedBy-leb (λ (p : ℕ × ℕ). p.0) places mine owners_rise

  -- what the result of a search for the first transaction of a later session says
  module _ (u end : ℕ) (below : u < count h) (within : end ≤ count h)
      (point : IsPartitionPoint (λ (p : ℕ × ℕ). nat_le p.0 (indexed_of indexed u).owner ≡ true)
      (λ (p : ℕ × ℕ). nat_le p.0 (indexed_of indexed u).owner ≡ false) places end) where
    before : (k : ℕ) → k < end → owner h k ≤ owner h u
    before k less =
        let inside : k < length indexed = omega (arith, less, within, count_is names indexed) in
        rw (owner_is sessions names indexed k, owner_is sessions names indexed u)
        (leb-true (indexed_of indexed k).owner (indexed_of indexed u).owner
        (rw (place_is k inside) at (point.0 k (0, 0) (omega (arith, inside, long_places)) less)))

    after : (k : ℕ) → end ≤ k → k < count h → owner h u < owner h k
    after k more less =
        let inside : k < length indexed = omega (arith, less, count_is names indexed) in
        rw (owner_is sessions names indexed k, owner_is sessions names indexed u)
        (leb-false (indexed_of indexed k).owner (indexed_of indexed u).owner (rw (place_is k inside) at (point.1 k (0, 0) more (omega (arith, inside, long_places)))))

    pub ends : 0 < u → (u < end) × ((v : ℕ) → IsSessionPair h u v ↔ ((u + 1 ≤ v) × (v < end)))
    ends some = (past h ordered u end some below within before after, later h ordered u end some below within before after)
