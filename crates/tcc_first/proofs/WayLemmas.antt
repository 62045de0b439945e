-- Pairs to the transactions before another in session order, and readings by their readers.
use Rattle.std.proofs.Common.{ℕ, ◌<◌, ◌≤◌, ◌≡◌, ◌⊎◌, inl, inr, Bool, false, List, [], length, get_or, map, sym, subst, ◌∙◌, arith}
use Rattle.std.specs.Prelude.{◌↔◌, IsTrue, slice_index}
use Rattle.std.specs.List.{Contains}
use Rattle.std.proofs.lemmas.Bool.{cases_lt, cases_eq, false≢true}
use Rattle.std.proofs.lemmas.List.{get_or_default}
use Rattle.tcc_reads.specs.History.{History, IsBySession, place}
use Rattle.tcc_graph.specs.Relations.{IsSessionPair, session_pair, causal_pair, IsCausalPair}
use Rattle.tcc_graph.specs.Readings.{AreReadings, AreReadingsByIndex}
use Rattle.tcc_graph.specs.Keys.{key_at}
use Rattle.tcc_graph.proofs.NamedReadings.{named_readings}
use Rattle.tcc_graph.proofs.Pairs.{PairParts, pair_parts, pair_from_kinds}
use Rattle.tcc_graph.proofs.Sessions.{upto, onward}
use Rattle.tcc_least.specs.Shapes.{IsRead}
use Rattle.tcc_least.proofs.Listed.{pair_at, at_pair}
use Rattle.tcc_least.proofs.Sessions.{session_on, not_itself}
use Rattle.tcc_first.specs.private.Ways.{HasBetween, HasPairs, IsWay}

-- ---- the readers from a
module _ (h : History) (a : ℕ) (readers key_indices : List ℕ) (are : AreReadingsByIndex h a readers key_indices) where
  named : AreReadings h a readers (map (key_at h) key_indices)
  named = named_readings h a readers key_indices are

  pub reader_at : (k : ℕ) → k < length readers → IsRead h a (slice_index readers k)
  reader_at k inside =
      let x : List ℕ = get_or (map (key_at h) key_indices) k [] in
      (x, (named.each (slice_index readers k) x).0 (pair_at readers (map (key_at h) key_indices) [] named.long k inside))

  pub place_of_reader : (c : ℕ) → IsRead h a c → (k : ℕ) × (k < length readers) × (slice_index readers k ≡ c)
  place_of_reader c (x, read) =
      let w = at_pair readers (map (key_at h) key_indices) [] named.long c x ((named.each c x).1 read) in (w.0, w.1, w.2)

  pub reader_in : (c : ℕ) → IsRead h a c → Contains readers c
  reader_in c read = let w = place_of_reader c read in (w.0, w.1, get_or_default readers w.0 c 0 w.1 ∙ w.2)

  pub in_reader : (c : ℕ) → Contains readers c → IsRead h a c
  in_reader c (k, inside, is) =
      subst (λ (z : ℕ). IsRead h a z) (get_or_default readers k 0 c inside ∙ is) (reader_at k inside)

module _ (h : History) (ordered : IsBySession h.entries) where
  -- session order leads upward, except from `init`
  pub rises_to : (u v : ℕ) → 0 < u → IsSessionPair h u v → u < v
  rises_to u v some p = go (cases_lt u v) (cases_lt v u)
    where
      parts : PairParts h u v
      parts = pair_parts h u v p

      go : (u < v) ⊎ (v ≤ u) → (v < u) ⊎ (u ≤ v) → u < v
      go (inl up) q = up
      go (inr down) (inl less) =
          let l : place h u < place h v = parts.lower some in
          let m : place h v < place h u = (ordered v u less parts.from).1 (sym (parts.same some)) in
          absurd (omega (arith, l, m))
      go (inr down) (inr up) =
          let same : v ≡ u = omega (arith, down, up) in absurd (not_itself h u (subst (λ (z : ℕ). IsSessionPair h u z) same p))

  -- a pair to a lower number is a read
  pub read_down : (u m : ℕ) → m < u → IsCausalPair h u m → IsRead h u m
  read_down u m low (inr read) = read
  read_down u m low (inl p) = absurd (omega (arith, low, rises_to u m (omega (arith, low)) p))

  -- a transaction from one that comes before v, up to v, comes before v too
  pub stands_before : (u m v : ℕ) → 0 < u → u ≤ m → m < v → IsSessionPair h u v → IsSessionPair h m v
  stands_before u m v some low high p = go (cases_eq u m)
    where
      go : (u ≡ m) ⊎ (u ≡ m → ⊥) → IsSessionPair h m v
      go (inl same) = subst (λ (z : ℕ). IsSessionPair h z v) same p
      go (inr other) = onward h ordered u v some p m (omega (arith, low, other)) high

  -- and comes after those that the first one comes after
  pub stands_after : (s u m v : ℕ) → IsSessionPair h s u → u ≤ m → m < v → IsSessionPair h u v → IsSessionPair h s m
  stands_after s u m v q low high p = go (cases_eq u m)
    where
      parts : PairParts h s u
      parts = pair_parts h s u q

      go : (u ≡ m) ⊎ (u ≡ m → ⊥) → IsSessionPair h s m
      go (inl same) = subst (λ (z : ℕ). IsSessionPair h s z) same q
      go (inr other) = session_on h s u m q (upto h ordered u v parts.some p m (omega (arith, low, other)) high)

  -- ---- a pair to a transaction before u
  module _ (s u p : ℕ) (some : 0 < u) (last : (b : ℕ) → IsSessionPair h b u → (b ≡ p) ⊎ IsSessionPair h b p)
      (apart : session_pair h s p ≡ false) (no_init : causal_pair h s 0 ≡ false) where
    abbrev pub IsReadBefore : Type 0
    IsReadBefore = (w : ℕ) × (0 < w) × IsRead h s w × (w < u) × IsSessionPair h w u

    read_before : ((w : ℕ) × IsCausalPair h s w × IsSessionPair h w u) → IsReadBefore
    read_before (w, inl q, r) = absurd (false≢true (sym apart ∙ go (last w r)))
      where
        go : (w ≡ p) ⊎ IsSessionPair h w p → IsSessionPair h s p
        go (inl same) = subst (λ (z : ℕ). IsSessionPair h s z) same q
        go (inr on) = session_on h s w p q on
    read_before (w, inr read, r) = go (cases_lt 0 w)
      where
        go : (0 < w) ⊎ (w ≤ 0) → IsReadBefore
        go (inl more) = (w, more, read, rises_to w u more r, r)
        go (inr none) =
            absurd (false≢true (sym no_init ∙ pair_from_kinds h s 0 (inr (subst (λ (z : ℕ). IsRead h s z) (omega (arith, none)) read))))

    pub none_reads : (readers key_indices : List ℕ) → AreReadingsByIndex h s readers key_indices → ((n : ℕ) → Contains readers n → u ≤ n)
        → ((w : ℕ) × IsCausalPair h s w × IsSessionPair h w u) → ⊥
    none_reads readers key_indices are high found =
        let (w, more, read, low, r) = read_before found in omega (arith, low, high w (reader_in h s readers key_indices are w read))

    pub last_reads : (readers key_indices : List ℕ) → AreReadingsByIndex h s readers key_indices → (m : ℕ) → m < u
        → ((n : ℕ) → Contains readers n → n < u → n ≤ m) → ((w : ℕ) × IsCausalPair h s w × IsSessionPair h w u) → IsSessionPair h m u
    last_reads readers key_indices are m below high found =
        let (w, more, read, low, r) = read_before found in
        stands_before w m u more (high w (reader_in h s readers key_indices are w read) low) below r

-- ---- two pairs, by the kind of the second
pub between_or : (h : History) (s u : ℕ) (r : Bool) → (((d : ℕ) × IsRead h d u × IsCausalPair h s d) → ⊥)
    → IsTrue r ↔ ((w : ℕ) × IsCausalPair h s w × IsSessionPair h w u) → IsTrue r ↔ HasBetween h s u
between_or h s u r none both = ((λ e. let (w, p, q) = both.0 e in (w, p, inl q)), go)
  where
    go : HasBetween h s u → IsTrue r
    go (w, p, inl q) = both.1 (w, p, q)
    go (w, p, inr read) = absurd (none (w, read, p))

-- a way of one step is a pair
pub way_by_pair : (h : History) (n s u : ℕ) → n ≡ 1 → IsWay h n s u → IsCausalPair h s u
way_by_pair h n s u one (inl (none, same)) = absurd (omega (arith, one, none))
way_by_pair h n s u one (inr (inl (same, pair))) = pair
way_by_pair h n s u one (inr (inr (two, way))) = absurd (omega (arith, one, two))

pub one_pair : (h : History) (n s u : ℕ) → n ≡ 1 → HasPairs h n s u → IsCausalPair h s u
one_pair h n s u one (inl (none, same)) = absurd (omega (arith, one, none))
one_pair h n s u one (inr (inl (same, pair))) = pair
one_pair h n s u one (inr (inr (two, between))) = absurd (omega (arith, one, two))
