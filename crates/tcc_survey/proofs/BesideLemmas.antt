-- Hits of a scan from which a single pair leads to the reader.
use Rattle.std.proofs.Common.{◌≡◌, ◌≢◌, ◌<◌, ◌≤◌, ◌+◌, ◌⊎◌, inl, inr, ℕ, true, List, length, map, get_or, slice_index, refl, sym, ap, ◌∙◌, subst, arith}
use Rattle.std.specs.List.{Contains}
use Rattle.std.specs.List.Sorted.{IsNonDecreasing}
use Rattle.std.proofs.lemmas.Bool.{cases_lt, cases_eq}
use Rattle.std.proofs.lemmas.List.{get_or_default}
use Rattle.tcc_txn.proofs.Lists.{from_map}
use Rattle.tcc_reads.specs.History.{History, entry_at}
use Rattle.tcc_graph.specs.Keys.{key_at}
use Rattle.tcc_graph.specs.Relations.{causal_pair, IsSessionPair, IsReadsPair}
use Rattle.tcc_graph.specs.declared.level.Level.{Level}
use Rattle.tcc_graph.specs.declared.level.Level.TheVariants.{Atomic}
use Rattle.tcc_graph.proofs.Pairs.{PairParts, pair_kinds, pair_parts}
use Rattle.tcc_clocks.specs.declared.latest.TheConstants.{WIDE}
use Rattle.tcc_clocks.proofs.Reaching.{reads_source}
use Rattle.tcc_survey.specs.declared.scanning.Scan.{Scan}
use Rattle.tcc_survey.specs.private.Settled.{IsHitOf, IsHitOnLane, IsKnown, IsLeastOf, IsOwnHit, MayHit}

-- where all before an index are of lower sessions, the session begins there or later
pub none_early : (owners : List ℕ) (session end first : ℕ) → first ≡ end → ((k : ℕ) → k < end → slice_index owners k < session)
    → (b : ℕ) → b < length owners → slice_index owners b ≡ session → first ≤ b
none_early owners session end first same less b inside mine = go (cases_lt b end)
  where
    go : (b < end) ⊎ (end ≤ b) → first ≤ b
    go (inl early) = absurd (omega (arith, less b early, mine))
    go (inr late) = omega (arith, late, same)

-- ---- one of some that rise
module _ (xs : List ℕ) (b index : ℕ) where
  pub there_at : index < length xs → get_or xs index 0 ≡ b → Contains xs b
  there_at inside same = (index, inside, get_or_default xs index b 0 inside ∙ same)

  module _ (rising : IsNonDecreasing xs) (less : (k : ℕ) → k < index → slice_index xs k < b)
      (others : (k : ℕ) → index ≤ k → k < length xs → b ≤ slice_index xs k) where
    pub at_there : Contains xs b → (index < length xs) × (get_or xs index 0 ≡ b)
    at_there (k, l, e) = go (cases_lt k index)
      where
        at : get_or xs k 0 ≡ b
        at = get_or_default xs k 0 b l ∙ e

        go : (k < index) ⊎ (index ≤ k) → (index < length xs) × (get_or xs index 0 ≡ b)
        go (inl early) = absurd (omega (arith, less k early, at))
        go (inr late) =
            let inside : index < length xs = omega (arith, late, l) in
            (inside, omega (arith, rising index k 0 late l, at, others index (omega arith) inside))

-- ---- the reader's own session
module _ (s : Scan) where
  abbrev session_of : ℕ → ℕ
  session_of b = slice_index s.block.owners.now b

  pub own_outside : (session_of s.reader < s.block.from) ⊎ (s.block.from + WIDE ≤ session_of s.reader) → IsLeastOf (IsOwnHit s) 0
  own_outside away = record { attained = inl refl; least = λ d w. absurd (never away d w) }
    where
      never : (session_of s.reader < s.block.from) ⊎ (s.block.from + WIDE ≤ session_of s.reader) → (d : ℕ) → IsOwnHit s d → ⊥
      never (inl low) d (hit, same) = omega (arith, low, same, hit.2.2)
      never (inr high) d (hit, same) = omega (arith, high, same, hit.2.2, hit.2.1)

  module _ (lane : ℕ) (small : lane < WIDE) (mine : session_of s.reader ≡ s.block.from + lane) where
    up_lane : (d : ℕ) → IsHitOnLane s lane d → IsOwnHit s d
    up_lane d w = ((w.0, w.1, (lane, small, w.2, w.3, w.4), w.5), w.2 ∙ sym mine)

    down_lane : (d : ℕ) → IsOwnHit s d → IsHitOnLane s lane d
    down_lane d (hit, same) =
        let at : hit.2.0 ≡ lane = omega (arith, hit.2.2, same, mine) in (
          hit.0,
          hit.1,
          same ∙ mine,
          subst (λ (k : ℕ). slice_index s.first.now k ≤ d) at hit.2.3,
          subst (λ (k : ℕ). d ≤ slice_index s.clock.now k) at hit.2.4,
          hit.3,
        )

    pub own_inside : (found : ℕ) → IsLeastOf (IsHitOnLane s lane) found → IsLeastOf (IsOwnHit s) found
    own_inside found is = record { attained = up is.attained; least = λ d w. is.least d (down_lane d w) }
      where
        up : (found ≡ 0) ⊎ IsHitOnLane s lane found → (found ≡ 0) ⊎ IsOwnHit s found
        up (inl none) = inl none
        up (inr hit) = inr (up_lane found hit)

-- ---- the least of those of the reader's session and of those that it reads from
abbrev pub source_at : List (ℕ × ℕ) → ℕ → ℕ
source_at items k = (get_or items k (0, 0)).1

-- whom a transaction reads from is among the sources of its reads
pub source_index : (h : History) (c : ℕ) (items : List (ℕ × ℕ)) → map (λ read. (key_at h read.0, read.1)) items ≡ (entry_at h c).reads
    → (d : ℕ) (x : List ℕ) → IsReadsPair h d c x → (k : ℕ) × (k < length items) × (source_at items k ≡ d)
source_index h c items value d x pair =
    let w = from_map (λ (read : List ℕ × ℕ). read.1) (entry_at h c).reads d (reads_source h d c x pair.2) in
    let v = from_map (λ (read : ℕ × ℕ). (key_at h read.0, read.1)) items w.0 (subst (λ (xs : List (List ℕ × ℕ)). Contains xs w.0) (sym value) w.1) in
    go v.0 v.1 (ap (λ (p : List ℕ × ℕ). p.1) v.2 ∙ w.2)
  where
    go : (r : ℕ × ℕ) → Contains items r → r.1 ≡ d → (k : ℕ) × (k < length items) × (source_at items k ≡ d)
    go r (k, l, e) same =
        let here : ◌≡◌ {A = ℕ × ℕ} (get_or items k (0, 0)) r = get_or_default items k (0, 0) r l ∙ e in
        (k, l, ap (λ (p : ℕ × ℕ). p.1) here ∙ same)

-- the least so far
pub record IsLeastBeside (s : Scan) (items : List (ℕ × ℕ)) (n : ℕ) (least : ℕ) : Type 0 where
  pub attained : (least ≡ 0) ⊎ IsHitOf s least
  pub own : (d : ℕ) → IsOwnHit s d → (0 < least) × (least ≤ d)
  pub sources : (k : ℕ) → k < n → IsHitOf s (source_at items k) → (0 < least) × (least ≤ source_at items k)

module _ (s : Scan) (items : List (ℕ × ℕ)) where
  pub beside_none : (own : ℕ) → IsLeastOf (IsOwnHit s) own → IsLeastBeside s items 0 own
  beside_none own is = record { attained = up is.attained; own = is.least; sources = λ k l. absurd (omega (arith, l)) }
    where
      up : (own ≡ 0) ⊎ IsOwnHit s own → (own ≡ 0) ⊎ IsHitOf s own
      up (inl none) = inl none
      up (inr hit) = inr hit.0

  pub beside_more : (n least next : ℕ) → IsLeastBeside s items n least → (next ≡ 0) ⊎ IsHitOf s next
      → (0 < least → (0 < next) × (next ≤ least)) → (IsHitOf s (source_at items n) → (0 < next) × (next ≤ source_at items n))
      → IsLeastBeside s items (n + 1) next
  beside_more n least next is attained kept met = record {
    attained = attained;
    own = λ d w. on d (is.own d w);
    sources = λ k l hit. go k l hit (cases_eq k n);
  }
    where
      on : (d : ℕ) → (0 < least) × (least ≤ d) → (0 < next) × (next ≤ d)
      on d (some, upto) = let w = kept some in (w.0, omega (arith, w.1, upto))

      go : (k : ℕ) → k < n + 1 → IsHitOf s (source_at items k) → (k ≡ n) ⊎ (k ≢ n) → (0 < next) × (next ≤ source_at items k)
      go k l hit (inl same) =
          subst (λ (m : ℕ). (0 < next) × (next ≤ source_at items m)) (sym same) (met (subst (λ (m : ℕ). IsHitOf s (source_at items m)) same hit))
      go k l hit (inr other) = on (source_at items k) (is.sources k (omega (arith, l, other)) hit)

  module _ (may : MayHit s) (level : s.level ≡ Atomic)
      (value : map (λ read. (key_at s.block.graph.now read.0, read.1)) items ≡ (entry_at s.block.graph.now s.reader).reads)
      (n least : ℕ) (is : IsLeastBeside s items n least) (past : length items ≤ n) where
    abbrev h : History
    h = s.block.graph.now

    known_pair : (d : ℕ) → IsKnown s.level h d s.reader → causal_pair h d s.reader ≡ true
    known_pair d known = subst (λ (l : Level). IsKnown l h d s.reader) level known

    pub beside_least : IsLeastOf (IsHitOf s) least
    beside_least = record { attained = is.attained; least = λ d hit. go d hit (pair_kinds h d s.reader (known_pair d hit.3)) }
      where
        go : (d : ℕ) → IsHitOf s d → IsSessionPair h d s.reader ⊎ ((x : List ℕ) × IsReadsPair h d s.reader x) → (0 < least) × (least ≤ d)
        go d hit (inl pair) =
            let parts : PairParts h d s.reader = pair_parts h d s.reader pair in
            let same : slice_index s.block.owners.now d ≡ slice_index s.block.owners.now s.reader
            = may.owned.each d hit.0 parts.from ∙ (parts.same hit.0 ∙ sym (may.owned.each s.reader parts.some parts.to)) in
            is.own d (hit, same)
        go d hit (inr (x, pair)) =
            let w = source_index h s.reader items value d x pair in
            let there : IsHitOf s (source_at items w.0) = subst (IsHitOf s) (sym w.2) hit in
            subst (λ (z : ℕ). (0 < least) × (least ≤ z)) w.2 (is.sources w.0 (omega (arith, w.1, past)) there)
