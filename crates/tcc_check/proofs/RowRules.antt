-- What was found in a row, stated as the rules state it.
use Rattle.std.proofs.Common.{◌≡◌, ◌<◌, ◌≤◌, ◌+◌, ◌-◌, ℕ, ◌⊎◌, inl, inr, List, length, get_or, Option, None, Some, arith, refl, sym, ap, subst, ◌∙◌}
use Rattle.std.specs.Prelude.{All, MatchOption}
use Rattle.tcc_reads.specs.History.{History, count}
use Rattle.tcc_graph.specs.Relations.{IsSessionPair, IsCausalPair}
use Rattle.tcc_graph.specs.declared.level.Level.{Level}
use Rattle.tcc_graph.specs.declared.level.Level.TheVariants as level
use Rattle.tcc_graph.proofs.Pairs.{pair_below}
use Rattle.tcc_cert.specs.declared.version.Version.{Version}
use Rattle.tcc_cert.specs.Tables.{entry, far_entry, lowest, row_of}
use Rattle.tcc_cert.specs.CycleRules.{BreaksNearPair, BreaksNearStep, BreaksFarLink, BreaksFarStep, BreaksReturn}
use Rattle.tcc_check.specs.private.Runs.{AreRuns}
use Rattle.tcc_check.specs.private.Searches.{IsFirstLong, IsFoundBelow, IsLongPair, IsLongSingle, IsLongStep}
use Rattle.tcc_check.specs.private.WeightsFrom.{AreAllEnds, AreEnds, ReadWeighs, WeighsFrom, ends_of}
use Rattle.tcc_check.specs.private.Coming.{IsFoundBefore, first_of}
use Rattle.tcc_check.proofs.Entries.{capped_at}
use Rattle.tcc_check.proofs.First.{first_in_row, holds_more}

-- the first in a row, stated as for the table
abbrev pub InRow : (ℕ × ℕ → Type 0) → ℕ → Option ℕ → Type 0
InRow broken s end = MatchOption end ((b : ℕ) → broken (s, b) → ⊥) (λ b. broken (s, b) × ((c : ℕ) → c < b → broken (s, c) → ⊥))

pub found-more : (n : ℕ) (broken : ℕ × ℕ → Type 0) (found : Option (ℕ × ℕ)) (end : Option ℕ) → IsFoundBefore n broken found → InRow broken n end
    → IsFoundBefore (n + 1) broken (first_of found n end)
found-more n broken (Some at) end before row = (omega (arith, before.0), before.1)
found-more n broken None None before row = holds_more n broken before row
found-more n broken None (Some b) before row = (omega arith, first_in_row broken n b before row.0 row.1)

-- where something was found before, nothing is looked for in the row
pub found-next : (n : ℕ) (broken : ℕ × ℕ → Type 0) (begins : List ℕ) (others : List (List (ℕ × ℕ))) (row : List ℕ) (low : ℕ) (found result : Option (ℕ × ℕ))
    → ((end : Option ℕ) → IsFoundBelow (low + length row) (IsLongStep begins others row low) end → InRow broken n end)
    → IsFirstLong found n begins others row low result → IsFoundBefore n broken found → IsFoundBefore (n + 1) broken result
found-next n broken begins others row low (Some at) result in-row is before = rw is (omega (arith, before.0), before.1)
found-next n broken begins others row low None result in-row (end, found, is) before = rw is (found-more n broken None end before (in-row end found))

-- the first number of a row of n at which it is broken
row-by : (n s : ℕ) (P : ℕ → Type 0) (broken : ℕ × ℕ → Type 0) (end : Option ℕ) → ((b : ℕ) → broken (s, b) → (b < n) × P b)
    → ((b : ℕ) → b < n → P b → broken (s, b)) → IsFoundBelow n P end → InRow broken s end
row-by n s P broken None to back none = λ b p. let q = to b p in none b q.0 q.1
row-by n s P broken (Some b) to back first = (back b first.below first.here, λ c l p. first.first c l (to c p).1)

-- ---- what links and steps cost, whatever the weights

module _ (h : History) (weighs : ℕ → ℕ → ℕ → Type 0) (low least : ℕ) (row : List ℕ) (capped : All (λ value. value ≤ least) row) where
  abbrev Single : ℕ → ℕ → Type 0
  Single s v = IsLongPair h row low s v ⊎ ((low ≤ v) × (w : ℕ) × weighs s v w × (1 + w < get_or row (v - low) 0))

  single-to : (s : ℕ) (ends : List (ℕ × ℕ)) → AreEnds (weighs s) (count h) least ends → (v : ℕ) → IsLongSingle h ends row low s v → Single s v
  single-to s ends are v (inl p) = inl p
  single-to s ends are v (inr (low_v, w, there, more)) = inr (low_v, w, (are.only (v, w) there).1, omega (arith, more))

  single-from : (s : ℕ) (ends : List (ℕ × ℕ)) → AreEnds (weighs s) (count h) least ends → (v : ℕ) → v < count h → Single s v → IsLongSingle h ends row low s v
  single-from s ends are v below (inl p) = inl p
  single-from s ends are v below (inr (low_v, w, p, more)) =
      let light = are.each v w below p (omega (arith, more, capped_at row least capped (v - low))) in
      inr (low_v, light.0, light.2, omega (arith, light.1, more))

  abbrev Step : ℕ → Type 0
  Step v =
      (low ≤ v) × (u : ℕ) × (low ≤ u) × ((IsSessionPair h u v × (get_or row (u - low) 0 + 1 < get_or row (v - low) 0))
      ⊎ ((w : ℕ) × weighs u v w × (get_or row (u - low) 0 + 1 + w < get_or row (v - low) 0)))

  module _ (begins : List ℕ) (others : List (List (ℕ × ℕ))) (runs : AreRuns h begins) (are : AreAllEnds weighs (count h) least others)
      (long : low + length row ≡ count h) where
    step-to : (v : ℕ) → v < count h → IsLongStep begins others row low v → Step v
    step-to v below (inl (low_v, (u, run, low_u, more))) = (low_v, u, low_u, inl (runs.pairs u v below run, more))
    step-to v below (inr (u, low_u, less, (low_v, w, there, more))) =
        (low_v, u, low_u, inr (w, ((are.rows u (omega (arith, less, long))).only (v, w) there).1, more))

    step-from : (v : ℕ) → v < count h → ((u w : ℕ) → weighs u v w → u < count h) → Step v → IsLongStep begins others row low v
    step-from v below bound (low_v, u, low_u, inl (pair, more)) = inl (low_v, (u, runs.whole u v pair, low_u, more))
    step-from v below bound (low_v, u, low_u, inr (w, p, more)) =
        let inside = bound u w p in
        let light = (are.rows u inside).each v w below p (omega (arith, more, capped_at row least capped (v - low))) in
        inr (u, low_u, omega (arith, inside, long), (low_v, light.0, light.2, omega (arith, light.1, more)))

-- ---- rows of lengths

module _ (h : History) (least : ℕ) (near : List (List ℕ)) (s : ℕ) (row : List ℕ) (is : row_of near s ≡ row) (start : s < count h)
    (long : length row ≡ count h) (capped : All (λ value. value ≤ least) row) (reads : List (List (ℕ × ℕ)))
    (are : AreAllEnds (ReadWeighs h) (count h) least reads) where
  number : (v : ℕ) → entry near s v ≡ get_or row (v - 0) 0
  number v = ap (λ r. get_or r v 0) is ∙ ap (λ k. get_or row k 0) (omega arith)

  pub near-pair-row : (end : Option ℕ) → IsFoundBelow (count h) (IsLongSingle h (ends_of reads s) row 0 s) end → InRow (BreaksNearPair h near) s end
  near-pair-row end found = row-by (count h) s (IsLongSingle h (ends_of reads s) row 0 s) (BreaksNearPair h near) end to back found
    where
      words : (v : ℕ) → IsCausalPair h s v → 1 < entry near s v → Single h (ReadWeighs h) 0 least row capped s v
      words v (inl pair) more = inl (omega arith, pair, omega (arith, more, number v))
      words v (inr (x, reads)) more = inr (omega arith, 0, (x, reads, refl), omega (arith, more, number v))

      to : (v : ℕ) → BreaksNearPair h near (s, v) → (v < count h) × IsLongSingle h (ends_of reads s) row 0 s v
      to v (pair, more) =
          let below = (pair_below h s v pair).1 in
          (below, single-from h (ReadWeighs h) 0 least row capped s (ends_of reads s) (are.rows s start) v below (words v pair more))

      turn : (v : ℕ) → Single h (ReadWeighs h) 0 least row capped s v → BreaksNearPair h near (s, v)
      turn v (inl (low_v, pair, more)) = (inl pair, omega (arith, more, number v))
      turn v (inr (low_v, w, (x, reads, none), more)) = (inr (x, reads), omega (arith, more, number v))

      back : (v : ℕ) → v < count h → IsLongSingle h (ends_of reads s) row 0 s v → BreaksNearPair h near (s, v)
      back v below p = turn v (single-to h (ReadWeighs h) 0 least row capped s (ends_of reads s) (are.rows s start) v p)

  pub near-step-row : (begins : List ℕ) → AreRuns h begins → (end : Option ℕ) → IsFoundBelow (0 + length row) (IsLongStep begins reads row 0) end
      → InRow (BreaksNearStep h level.Causal near) s end
  near-step-row begins runs end found =
      row-by (count h) s (IsLongStep begins reads row 0) (BreaksNearStep h level.Causal near) end to back
      (subst (λ (n : ℕ). IsFoundBelow n (IsLongStep begins reads row 0) end) whole found)
    where
      whole : 0 + length row ≡ count h
      whole = omega (arith, long)

      words : (v u : ℕ) → IsCausalPair h u v → entry near s u + 1 < entry near s v → Step h (ReadWeighs h) 0 least row capped v
      words v u (inl pair) more = (omega arith, u, omega arith, inl (pair, omega (arith, more, number v, number u)))
      words v u (inr (x, reads)) more = (omega arith, u, omega arith, inr (0, (x, reads, refl), omega (arith, more, number v, number u)))

      to : (v : ℕ) → BreaksNearStep h level.Causal near (s, v) → (v < count h) × IsLongStep begins reads row 0 v
      to v (causal, (first, (u, pair, more))) =
          let below = (pair_below h u v pair).1 in
          (below, step-from h (ReadWeighs h) 0 least row capped begins reads runs are whole v below (λ u w p. p.1.0) (words v u pair more))

      turn : (v : ℕ) → Step h (ReadWeighs h) 0 least row capped v → BreaksNearStep h level.Causal near (s, v)
      turn v (low_v, u, low_u, inl (pair, more)) = (refl, (start, (u, inl pair, omega (arith, more, number v, number u))))
      turn v (low_v, u, low_u, inr (w, (x, reads, none), more)) = (refl, (start, (u, inr (x, reads), omega (arith, more, number v, number u))))

      back : (v : ℕ) → v < count h → IsLongStep begins reads row 0 v → BreaksNearStep h level.Causal near (s, v)
      back v below p = turn v (step-to h (ReadWeighs h) 0 least row capped begins reads runs are whole v below p)

-- at `Atomic` nothing is asked
pub near-step-none : (h : History) (near : List (List ℕ)) (s : ℕ) → InRow (BreaksNearStep h level.Atomic near) s None
near-step-none h near s = λ b p. not p.0
  where
    not : level.Atomic ≡ level.Causal → ⊥
    not e = cc

-- the same at the level that is asked
pub at-level : (h : History) (near : List (List ℕ)) (s : ℕ) (asked known : Level) (end : Option ℕ) → asked ≡ known
    → InRow (BreaksNearStep h known near) s end → InRow (BreaksNearStep h asked near) s end
at-level h near s asked known end is row = subst (λ (l : Level). InRow (BreaksNearStep h l near) s end) (sym is) row

-- ---- rows of costs

module _ (h : History) (version : Version) (least : ℕ) (near far : List (List ℕ)) (s : ℕ) (row : List ℕ) (is : row_of far s ≡ row) (start : s < count h)
    (long : lowest version s + length row ≡ count h) (capped : All (λ value. value ≤ least) row) (links : List (List (ℕ × ℕ)))
    (are : AreAllEnds (λ u. WeighsFrom h (row_of near u) u) (count h) least links) where
  abbrev low : ℕ
  low = lowest version s

  abbrev weighs : ℕ → ℕ → ℕ → Type 0
  weighs u = WeighsFrom h (row_of near u) u

  cost : (v : ℕ) → far_entry version far s v ≡ get_or row (v - low) 0
  cost v = ap (λ r. get_or r (v - low) 0) is

  pub far-link-row : (end : Option ℕ) → IsFoundBelow (count h) (IsLongSingle h (ends_of links s) row low s) end → InRow (BreaksFarLink h version near far) s end
  far-link-row end found = row-by (count h) s (IsLongSingle h (ends_of links s) row low s) (BreaksFarLink h version near far) end to back found
    where
      words : (v : ℕ) → BreaksFarLink h version near far (s, v) → (v < count h) × Single h weighs low least row capped s v
      words v (low_v, inl (inl pair, more)) = ((pair_below h s v (inl pair)).1, inl (low_v, pair, omega (arith, more, cost v)))
      words v (low_v, inl (inr (x, reads), more)) = (reads.1, inr (low_v, 0, inl (x, reads, refl), omega (arith, more, cost v)))
      words v (low_v, inr (x, c, may, more)) = (may.1.0, inr (low_v, entry near s c, inr (x, c, may, refl), omega (arith, more, cost v)))

      to : (v : ℕ) → BreaksFarLink h version near far (s, v) → (v < count h) × IsLongSingle h (ends_of links s) row low s v
      to v p = let q = words v p in (q.0, single-from h weighs low least row capped s (ends_of links s) (are.rows s start) v q.0 q.1)

      turn : (v : ℕ) → Single h weighs low least row capped s v → BreaksFarLink h version near far (s, v)
      turn v (inl (low_v, pair, more)) = (low_v, inl (inl pair, omega (arith, more, cost v)))
      turn v (inr (low_v, w, inl (x, reads, none), more)) = (low_v, inl (inr (x, reads), omega (arith, more, cost v)))
      turn v (inr (low_v, w, inr (x, c, may, has), more)) = (low_v, inr (x, c, may, omega (arith, more, has, cost v)))

      back : (v : ℕ) → v < count h → IsLongSingle h (ends_of links s) row low s v → BreaksFarLink h version near far (s, v)
      back v below p = turn v (single-to h weighs low least row capped s (ends_of links s) (are.rows s start) v p)

  pub far-step-row : (begins : List ℕ) → AreRuns h begins → (end : Option ℕ) → IsFoundBelow (low + length row) (IsLongStep begins links row low) end
      → InRow (BreaksFarStep h version near far) s end
  far-step-row begins runs end found =
      row-by (count h) s (IsLongStep begins links row low) (BreaksFarStep h version near far) end to back
      (subst (λ (n : ℕ). IsFoundBelow n (IsLongStep begins links row low) end) long found)
    where
      words : (v : ℕ) → BreaksFarStep h version near far (s, v) → (v < count h) × Step h weighs low least row capped v
      words v (first, (low_v, (u, low_u, inl (inl pair, more)))) =
          ((pair_below h u v (inl pair)).1, (low_v, u, low_u, inl (pair, omega (arith, more, cost v, cost u))))
      words v (first, (low_v, (u, low_u, inl (inr (x, reads), more)))) =
          (reads.1, (low_v, u, low_u, inr (0, inl (x, reads, refl), omega (arith, more, cost v, cost u))))
      words v (first, (low_v, (u, low_u, inr (x, c, may, more)))) =
          (may.1.0, (low_v, u, low_u, inr (entry near u c, inr (x, c, may, refl), omega (arith, more, cost v, cost u))))

      bound : (v u w : ℕ) → weighs u v w → u < count h
      bound v u w (inl (x, reads, none)) = reads.0
      bound v u w (inr (x, c, may, has)) = may.2.0

      to : (v : ℕ) → BreaksFarStep h version near far (s, v) → (v < count h) × IsLongStep begins links row low v
      to v p = let q = words v p in (q.0, step-from h weighs low least row capped begins links runs are long v q.0 (bound v) q.1)

      turn : (v : ℕ) → Step h weighs low least row capped v → BreaksFarStep h version near far (s, v)
      turn v (low_v, u, low_u, inl (pair, more)) = (start, (low_v, (u, low_u, inl (inl pair, omega (arith, more, cost v, cost u)))))
      turn v (low_v, u, low_u, inr (w, inl (x, reads, none), more)) = (start, (low_v, (u, low_u, inl (inr (x, reads), omega (arith, more, cost v, cost u)))))
      turn v (low_v, u, low_u, inr (w, inr (x, c, may, has), more)) = (start, (low_v, (u, low_u, inr (x, c, may, omega (arith, more, has, cost v, cost u)))))

      back : (v : ℕ) → v < count h → IsLongStep begins links row low v → BreaksFarStep h version near far (s, v)
      back v below p = turn v (step-to h weighs low least row capped begins links runs are long v below p)

  pub return-row : (end : Option ℕ) → MatchOption end (least ≤ get_or row (s - low) 0) (λ e. (e ≡ s) × (get_or row (s - low) 0 < least))
      → InRow (BreaksReturn h version least far) s end
  return-row None found = λ b p. omega (arith, found, p.1.1, cost s)
  return-row (Some e) found = ((start, (found.0, omega (arith, found.1, cost s))), λ c l p. omega (arith, l, p.1.0, found.0))
