-- The lengths of walks, lowered along the pairs.
use Rattle.std.proofs.Common.{◌≡◌, ◌≢◌, ◌<◌, ◌≤◌, ◌+◌, ◌-◌, ◌⊎◌, inl, inr, ℕ, suc, zero, List, length, get_or, set, replicate, length-set, refl, sym, ap, subst, ◌∙◌, arith}
use Rattle.std.specs.Prelude.{min}
use Rattle.std.proofs.lemmas.Bool.{cases_eq, cases_lt, eq-eqb, ne_eqb}
use Rattle.std.proofs.lemmas.List.{get_or-replicate, get_or-set_other, get_or-set_same, get_or_default, length-replicate}
use Rattle.tcc_reads.specs.History.{History, IsBySession, count, place}
use Rattle.tcc_graph.specs.Keys.{key_at}
use Rattle.tcc_graph.specs.Levels.{Judged, judged, IsAllowedWalk}
use Rattle.tcc_graph.specs.Relations.{IsCausalPair, IsSessionPair}
use Rattle.tcc_graph.specs.Walks.{IsWalk}
use Rattle.tcc_graph.specs.declared.level.Level.{Level}
use Rattle.tcc_graph.specs.declared.level.Level.TheVariants as level
use Rattle.tcc_graph.specs.declared.step.Step.{Step}
use Rattle.tcc_graph.proofs.Pairs.{pair_below, pair_parts}
use Rattle.tcc_graph.proofs.Walking.{pair_walk, walk_on}
use Rattle.tcc_clocks.specs.Parents.{ArePrevious, previous}
use Rattle.tcc_clocks.proofs.Reaching.{none_before, parent_or_init, session_more}
use Rattle.tcc_least.specs.Shapes.{IsRead}
use Rattle.tcc_least.proofs.ReadLemmas.{AreReadsAt, is_read, read_is}
use Rattle.tcc_lanes.specs.Lengths.{AreWalkLengths}
use Rattle.tcc_lanes.specs.declared.lengths.TheConstants.{NO_WALK}
use Rattle.tcc_lanes.specs.private.Lowering.{AreAttained, AreLowered, IsLeastOver, least_on, steps_at}
use Rattle.tcc_lanes.specs.private.Pricing.{IsLowered}
use Rattle.tcc_lanes.proofs.Walked.{last_pair, one_allowed}

-- ---- the sources
-- the least of the values at the sources of the first reads
abbrev pub IsLeastIn : (ℕ → ℕ) → List (ℕ × ℕ) → ℕ → ℕ → Type 0
IsLeastIn steps reads end least =
    ((n : ℕ) → n < end → least ≤ steps (get_or reads n (0, 0)).1)
    × ((least ≡ NO_WALK) ⊎ ((n : ℕ) × (n < end) × (steps (get_or reads n (0, 0)).1 ≡ least)))

module _ (steps : ℕ → ℕ) (reads : List (ℕ × ℕ)) where
  pub least_in_none : IsLeastIn steps reads 0 NO_WALK
  least_in_none = ((λ n l. absurd (omega (arith, l))), inl refl)

  pub least_in_more : (end least new : ℕ) → new ≡ min (steps (get_or reads end (0, 0)).1) least → IsLeastIn steps reads end least → IsLeastIn steps reads (end + 1) new
  least_in_more end least new is w = ((λ n l. below n l (cases_eq n end)), some (cases_lt (steps (get_or reads end (0, 0)).1) least) w.1)
    where
      below : (n : ℕ) → n < end + 1 → (n ≡ end) ⊎ (n ≢ end) → new ≤ steps (get_or reads n (0, 0)).1
      below n l (inl same) = subst (λ (z : ℕ). new ≤ steps (get_or reads z (0, 0)).1) (sym same) (omega (arith, is))
      below n l (inr other) = omega (arith, is, w.0 n (omega (arith, l, other)))

      some : (steps (get_or reads end (0, 0)).1 < least) ⊎ (least ≤ steps (get_or reads end (0, 0)).1)
          → (least ≡ NO_WALK) ⊎ ((n : ℕ) × (n < end) × (steps (get_or reads n (0, 0)).1 ≡ least))
          → (new ≡ NO_WALK) ⊎ ((n : ℕ) × (n < end + 1) × (steps (get_or reads n (0, 0)).1 ≡ new))
      some (inl low) q = inr (end, omega arith, omega (arith, is, low))
      some (inr high) (inl none) = inl (omega (arith, is, high, none))
      some (inr high) (inr (n, l, here)) = inr (n, omega (arith, l), omega (arith, is, high, here))

  pub least_in_all : (h : History) (v : ℕ) → AreReadsAt h v reads → v < count h → (end least : ℕ) → length reads ≡ end → IsLeastIn steps reads end least
      → IsLeastOver (λ u. IsRead h u v) steps least
  least_in_all h v are inside end least all w = record { below = below; some = some w.1 }
    where
      below : (u : ℕ) → IsRead h u v → least ≤ steps u
      below u (x, pair) =
          let (read, (n, within, is), from, key) = read_is h v reads are u x pair in
          let here : (get_or reads n (0, 0)).1 ≡ u = ap (λ (r : ℕ × ℕ). r.1) (get_or_default reads n (0, 0) read within ∙ is) ∙ from in
          subst (λ (z : ℕ). least ≤ steps z) here (w.0 n (omega (arith, within, all)))

      some : (least ≡ NO_WALK) ⊎ ((n : ℕ) × (n < end) × (steps (get_or reads n (0, 0)).1 ≡ least))
          → (least ≡ NO_WALK) ⊎ ((u : ℕ) × IsRead h u v × (steps u ≡ least))
      some (inl none) = inl none
      some (inr (n, l, here)) =
          let read : ℕ × ℕ = get_or reads n (0, 0) in
          inr (read.1, (key_at h read.0, is_read h v reads are read (n, omega (arith, l, all), get_or_default reads n read (0, 0) (omega (arith, l, all))) inside), here)

-- ---- one sweep
-- the lengths after the transactions before v are done; the run has those before v - 1 in session order
pub record AreSwept (j : Judged) (b : ℕ) (most : ℕ) (old : List ℕ) (v : ℕ) (run : ℕ) (new : List ℕ) : Type 0 where
  pub same : length new ≡ length old
  pub kept : (u : ℕ) → get_or new u 0 ≤ get_or old u 0
  pub run_is : 0 < v → IsLeastOver (λ u. IsSessionPair j.history u (v - 1)) (steps_at j.level b new) run
  pub over : (u w : ℕ) → w < v → IsCausalPair j.history u w → steps_at j.level b old u < most → get_or new w 0 ≤ steps_at j.level b old u + 1
  pub attained : AreAttained j b most old → AreAttained j b most new

module _ (h : History) (l : Level) (b most : ℕ) (numbered : IsBySession h.entries) (parents : List ℕ) (are : ArePrevious h parents) (old : List ℕ) where
  abbrev j : Judged
  j = judged h l

  pub swept_none : (run : ℕ) → AreSwept j b most old 0 run old
  swept_none run = record {
    same = refl;
    kept = λ u. omega arith;
    run_is = λ some. absurd (omega (arith, some));
    over = λ u w less. absurd (omega (arith, less));
    attained = λ w. w;
  }

  -- lowered lengths lower the steps
  steps_kept : (l : Level) (new : List ℕ) → ((u : ℕ) → get_or new u 0 ≤ get_or old u 0) → (u : ℕ) → steps_at l b new u ≤ steps_at l b old u
  steps_kept l new kept u = go l (cases_eq u b)
    where
      go : (l : Level) → (u ≡ b) ⊎ (u ≢ b) → steps_at l b new u ≤ steps_at l b old u
      go level.Causal (inl here) = rw (eq-eqb u b here) (omega arith)
      go level.Causal (inr other) = rw (ne_eqb u b other) (kept u)
      go level.Atomic (inl here) = rw (eq-eqb u b here) (omega arith)
      go level.Atomic (inr other) = rw (ne_eqb u b other) (omega arith)

  -- elsewhere they stay
  steps_stay : (l : Level) (new : List ℕ) (v x u : ℕ) → u ≢ v → steps_at l b (set new v x) u ≡ steps_at l b new u
  steps_stay l new v x u other = go l (cases_eq u b)
    where
      go : (l : Level) → (u ≡ b) ⊎ (u ≢ b) → steps_at l b (set new v x) u ≡ steps_at l b new u
      go level.Causal (inl here) = rw (eq-eqb u b here) refl
      go level.Causal (inr apart) = rw (ne_eqb u b apart) (get_or-set_other new v u x 0 other)
      go level.Atomic (inl here) = rw (eq-eqb u b here) refl
      go level.Atomic (inr apart) = rw (ne_eqb u b apart) refl

  -- one more pair, from a transaction to which this many steps lead
  on : (l : Level) (new : List ℕ) → AreAttained (judged h l) b most new → (u v : ℕ) → b < count h → IsCausalPair h u v → steps_at l b new u < NO_WALK
      → (walk : List Step) × IsAllowedWalk (judged h l) b v walk × (length walk ≤ steps_at l b new u + 1)
  on l new w u v inside pair low = go l w low (cases_eq u b)
    where
      go : (l : Level) → AreAttained (judged h l) b most new → steps_at l b new u < NO_WALK → (u ≡ b) ⊎ (u ≢ b)
          → (walk : List Step) × IsAllowedWalk (judged h l) b v walk × (length walk ≤ steps_at l b new u + 1)
      go l w low (inl here) =
          let one = pair_walk h b v (subst (λ (z : ℕ). IsCausalPair h z v) here pair) in
          (one.0, (one.1, one_allowed l one.0 one.2), omega (arith, one.2))
      go level.Causal w low (inr other) =
          let is : steps_at level.Causal b new u ≡ get_or new u 0 = rw (ne_eqb u b other) refl in
          let (walk, allowed, short, within) = w u (pair_below h u v pair).0 (omega (arith, low, is)) in
          let longer = walk_on h b u v walk allowed.0 pair in
          (longer.0, (longer.1, tt), omega (arith, longer.2, short, is))
      go level.Atomic w low (inr other) =
          let is : steps_at level.Atomic b new u ≡ NO_WALK = rw (ne_eqb u b other) refl in absurd (omega (arith, low, is))

  -- the run is continued
  module _ (v run : ℕ) (new : List ℕ) (below : v < count h) (w : AreSwept j b most old v run new) where
    abbrev run_here : ℕ
    run_here = least_on l b parents new run v

    run_at : IsLeastOver (λ u. IsSessionPair h u v) (steps_at l b new) run_here
    run_at = go (cases_eq v 0) (cases_eq (get_or parents v 0) 0)
      where
        is : v ≢ 0 → get_or parents v 0 ≡ previous h v
        is other = are.each v (omega arith) below

        last : ℕ
        last = steps_at l b new (get_or parents v 0)

        first : v ≡ 0 → IsLeastOver (λ u. IsSessionPair h u v) (steps_at l b new) NO_WALK
        first none = record { below = λ u pair. absurd (none_before h u (subst (IsSessionPair h u) none pair)); some = inl refl }

        only_init : v ≢ 0 → get_or parents v 0 ≡ 0 → IsLeastOver (λ u. IsSessionPair h u v) (steps_at l b new) last
        only_init other none = record {
          below = λ u pair. from u ((session_more h numbered u v (omega arith) below).0 pair);
          some = inr (get_or parents v 0, (session_more h numbered (get_or parents v 0) v (omega arith) below).1 (inr (is other)), refl);
        }
          where
            from : (u : ℕ) → IsSessionPair h u (previous h v) ⊎ (u ≡ previous h v) → last ≤ steps_at l b new u
            from u (inl pair) = absurd (none_before h u (subst (IsSessionPair h u) (sym (is other) ∙ none) pair))
            from u (inr same) = subst (λ (z : ℕ). last ≤ steps_at l b new z) (is other ∙ sym same) (omega arith)

        onward : v ≢ 0 → get_or parents v 0 ≢ 0 → IsLeastOver (λ u. IsSessionPair h u v) (steps_at l b new) (min run last)
        onward other some = record {
          below = λ u pair. from u ((session_more h numbered u v (omega arith) below).0 pair);
          some = by (cases_lt last run) run_was.some;
        }
          where
            parent : get_or parents v 0 ≡ v - 1
            parent = is other ∙ parent_or_init h v (λ none. some (is other ∙ none))

            run_was : IsLeastOver (λ u. IsSessionPair h u (previous h v)) (steps_at l b new) run
            run_was = subst (λ (z : ℕ). IsLeastOver (λ u. IsSessionPair h u z) (steps_at l b new) run) (sym parent ∙ is other) (w.run_is (omega arith))

            from : (u : ℕ) → IsSessionPair h u (previous h v) ⊎ (u ≡ previous h v) → min run last ≤ steps_at l b new u
            from u (inl pair) = omega (arith, run_was.below u pair)
            from u (inr same) = subst (λ (z : ℕ). min run last ≤ steps_at l b new z) (is other ∙ sym same) (omega arith)

            by : (last < run) ⊎ (run ≤ last) → (run ≡ NO_WALK) ⊎ ((u : ℕ) × IsSessionPair h u (previous h v) × (steps_at l b new u ≡ run))
                → (min run last ≡ NO_WALK) ⊎ ((u : ℕ) × IsSessionPair h u v × (steps_at l b new u ≡ min run last))
            by (inl low) q = inr (get_or parents v 0, (session_more h numbered (get_or parents v 0) v (omega arith) below).1 (inr (is other)), omega (arith, low))
            by (inr high) (inl none) = inl (omega (arith, high, none))
            by (inr high) (inr (u, pair, here)) = inr (u, (session_more h numbered u v (omega arith) below).1 (inl pair), omega (arith, high, here))

        go : (v ≡ 0) ⊎ (v ≢ 0) → (get_or parents v 0 ≡ 0) ⊎ (get_or parents v 0 ≢ 0) → IsLeastOver (λ u. IsSessionPair h u v) (steps_at l b new) run_here
        go (inl none) q = rw (eq-eqb v 0 none) (first none)
        go (inr other) (inl none) = rw (ne_eqb v 0 other, eq-eqb (get_or parents v 0) 0 none) (only_init other none)
        go (inr other) (inr some) = rw (ne_eqb v 0 other, ne_eqb (get_or parents v 0) 0 some) (onward other some)

    -- the least of both kinds of pairs
    module _ (sources steps x : ℕ) (inside : b < count h) (long : length old ≡ count h) (read : IsLeastOver (λ u. IsRead h u v) (steps_at l b new) sources)
        (is : steps ≡ min sources run_here) (lowered : IsLowered (steps < most) (steps + 1) (get_or new v 0) x) where
      least : (u : ℕ) → IsCausalPair h u v → steps ≤ steps_at l b new u
      least u (inl pair) = omega (arith, is, run_at.below u pair)
      least u (inr pair) = omega (arith, is, read.below u pair)

      some : (steps ≡ NO_WALK) ⊎ ((u : ℕ) × IsCausalPair h u v × (steps_at l b new u ≡ steps))
      some = go (cases_lt sources run_here) read.some run_at.some
        where
          go : (sources < run_here) ⊎ (run_here ≤ sources) → (sources ≡ NO_WALK) ⊎ ((u : ℕ) × IsRead h u v × (steps_at l b new u ≡ sources))
              → (run_here ≡ NO_WALK) ⊎ ((u : ℕ) × IsSessionPair h u v × (steps_at l b new u ≡ run_here))
              → (steps ≡ NO_WALK) ⊎ ((u : ℕ) × IsCausalPair h u v × (steps_at l b new u ≡ steps))
          go (inl low) (inl none) q = inl (omega (arith, is, low, none))
          go (inl low) (inr (u, pair, here)) q = inr (u, inr pair, omega (arith, is, low, here))
          go (inr high) q (inl none) = inl (omega (arith, is, high, none))
          go (inr high) q (inr (u, pair, here)) = inr (u, inl pair, omega (arith, is, high, here))

      here : get_or (set new v x) v 0 ≡ x
      here = get_or-set_same new v x 0 (omega (arith, below, long, w.same))

      pub swept_more : AreSwept j b most old (v + 1) run_here (set new v x)
      swept_more = record {
        same = length-set new v x ∙ w.same;
        kept = λ u. kept u (cases_eq u v);
        run_is = λ _. subst (λ (z : ℕ). IsLeastOver (λ u. IsSessionPair h u z) (steps_at l b (set new v x)) run_here) minus run_after;
        over = λ u z less pair low. over u z less pair low (cases_eq z v);
        attained = λ before z m low. attained before z m low (cases_eq z v);
      }
        where
          minus : v ≡ v + 1 - 1
          minus = omega arith

          kept : (u : ℕ) → (u ≡ v) ⊎ (u ≢ v) → get_or (set new v x) u 0 ≤ get_or old u 0
          kept u (inl same) =
              subst (λ (z : ℕ). get_or (set new v x) z 0 ≤ get_or old z 0) (sym same) (omega (arith, here, lowered.kept, w.kept v))
          kept u (inr other) = omega (arith, get_or-set_other new v u x 0 other, w.kept u)

          apart : (u : ℕ) → IsSessionPair h u v → u ≢ v
          apart u pair same = go (cases_lt 0 u)
            where
              go : (0 < u) ⊎ (u ≤ 0) → ⊥
              go (inl more) = omega (arith, (pair_parts h u v pair).lower more, ap (λ (n : ℕ). place h n) same)
              go (inr none) = omega (arith, (pair_parts h u v pair).some, same, none)

          run_after : IsLeastOver (λ u. IsSessionPair h u v) (steps_at l b (set new v x)) run_here
          run_after = record {
            below = λ u pair. omega (arith, run_at.below u pair, steps_stay l new v x u (apart u pair));
            some = by run_at.some;
          }
            where
              by : (run_here ≡ NO_WALK) ⊎ ((u : ℕ) × IsSessionPair h u v × (steps_at l b new u ≡ run_here))
                  → (run_here ≡ NO_WALK) ⊎ ((u : ℕ) × IsSessionPair h u v × (steps_at l b (set new v x) u ≡ run_here))
              by (inl none) = inl none
              by (inr (u, pair, at)) = inr (u, pair, steps_stay l new v x u (apart u pair) ∙ at)

          over : (u z : ℕ) → z < v + 1 → IsCausalPair h u z → steps_at l b old u < most → (z ≡ v) ⊎ (z ≢ v)
              → get_or (set new v x) z 0 ≤ steps_at l b old u + 1
          over u z less pair low (inr other) = omega (arith, get_or-set_other new v z x 0 other, w.over u z (omega (arith, less, other)) pair low)
          over u z less pair low (inl same) =
              let now : IsCausalPair h u v = subst (λ (y : ℕ). IsCausalPair h u y) same pair in
              let fewer : steps ≤ steps_at l b old u = omega (arith, least u now, steps_kept l new w.kept u) in
              subst (λ (y : ℕ). get_or (set new v x) y 0 ≤ steps_at l b old u + 1) (sym same)
              (omega (arith, here, lowered.lowered (omega (arith, fewer, low)), fewer))

          attained : AreAttained j b most old → (z : ℕ) → z < count h → get_or (set new v x) z 0 < NO_WALK → (z ≡ v) ⊎ (z ≢ v)
              → (walk : List Step) × IsAllowedWalk j b z walk × (length walk ≤ get_or (set new v x) z 0) × (get_or (set new v x) z 0 ≤ most)
          attained before z m low (inr other) =
              let stays = get_or-set_other new v z x 0 other in
              let (walk, allowed, short, within) = w.attained before z m (omega (arith, low, stays)) in
              (walk, allowed, omega (arith, short, stays), omega (arith, within, stays))
          attained before z m low (inl same) =
              subst (λ (y : ℕ). (walk : List Step) × IsAllowedWalk j b y walk × (length walk ≤ get_or (set new v x) y 0) × (get_or (set new v x) y 0 ≤ most)) (sym same)
              (at lowered.either)
            where
              low_here : x < NO_WALK
              low_here = omega (arith, subst (λ (y : ℕ). get_or (set new v x) y 0 < NO_WALK) same low, here)

              at : (x ≡ get_or new v 0) ⊎ ((steps < most) × (x ≡ steps + 1))
                  → (walk : List Step) × IsAllowedWalk j b v walk × (length walk ≤ get_or (set new v x) v 0) × (get_or (set new v x) v 0 ≤ most)
              at (inl stays) =
                  let (walk, allowed, short, within) = w.attained before v below (omega (arith, low_here, stays)) in
                  (walk, allowed, omega (arith, short, stays, here), omega (arith, within, stays, here))
              at (inr (few, one_more)) = by some
                where
                  by : (steps ≡ NO_WALK) ⊎ ((u : ℕ) × IsCausalPair h u v × (steps_at l b new u ≡ steps))
                      → (walk : List Step) × IsAllowedWalk j b v walk × (length walk ≤ get_or (set new v x) v 0) × (get_or (set new v x) v 0 ≤ most)
                  by (inl none) = absurd (omega (arith, none, one_more, low_here))
                  by (inr (u, pair, from)) =
                      let (walk, allowed, short) = on l new (w.attained before) u v inside pair (omega (arith, from, one_more, low_here)) in
                      (walk, allowed, omega (arith, short, from, one_more, here), omega (arith, few, one_more, here))

  pub swept_all : (v run : ℕ) (new : List ℕ) → count h ≤ v → AreSwept j b most old v run new → AreLowered j b most old new
  swept_all v run new all w = record {
    same = w.same;
    kept = w.kept;
    over = λ u z pair low. w.over u z (omega (arith, (pair_below h u z pair).1, all)) pair low;
    attained = w.attained;
  }

-- ---- sweep after sweep
-- the lengths after n sweeps
pub record AreMeasured (j : Judged) (b : ℕ) (most : ℕ) (n : ℕ) (lengths : List ℕ) : Type 0 where
  pub long : length lengths ≡ count j.history
  pub high : (v : ℕ) → v < count j.history → get_or lengths v 0 ≤ NO_WALK
  pub attained : AreAttained j b most lengths
  pub all : (v : ℕ) (walk : List Step) → v < count j.history → IsAllowedWalk j b v walk → length walk ≤ n → length walk ≤ most → get_or lengths v 0 ≤ length walk

module _ (h : History) (b most : ℕ) where
  pub measured_none : (l : Level) (n : ℕ) → n ≡ count h → AreMeasured (judged h l) b most 0 (replicate n NO_WALK)
  measured_none l n is = record {
    long = length-replicate {A = ℕ} n NO_WALK ∙ is;
    high = λ v m. omega (arith, all_none v m);
    attained = λ v m low. absurd (omega (arith, all_none v m, low));
    all = λ v walk m allowed short. absurd (omega (arith, short, allowed.0.0));
  }
    where
      all_none : (v : ℕ) → v < count h → get_or (replicate n NO_WALK) v 0 ≡ NO_WALK
      all_none v m = get_or-replicate {A = ℕ} n v NO_WALK 0 (omega (arith, m, is))

  -- this many steps lead to the transaction at which a walk's last pair begins
  came : (l : Level) (lengths : List ℕ) (n : ℕ)
      → ((v : ℕ) (walk : List Step) → v < count h → IsAllowedWalk (judged h l) b v walk → length walk ≤ n → length walk ≤ most → get_or lengths v 0 ≤ length walk)
      → (v : ℕ) (walk : List Step) → IsAllowedWalk (judged h l) b v walk → length walk ≤ n + 1 → length walk ≤ most
      → (u : ℕ) × IsCausalPair h u v × (steps_at l b lengths u + 1 ≤ length walk)
  came l lengths n all v walk allowed short within = go l all allowed (last_pair h b v walk allowed.0)
    where
      at_start : (l : Level) → steps_at l b lengths b ≡ 0
      at_start level.Causal = rw (eq-eqb b b refl) refl
      at_start level.Atomic = rw (eq-eqb b b refl) refl

      go : (l : Level)
          → ((v : ℕ) (walk : List Step) → v < count h → IsAllowedWalk (judged h l) b v walk → length walk ≤ n → length walk ≤ most → get_or lengths v 0 ≤ length walk)
          → IsAllowedWalk (judged h l) b v walk → (IsCausalPair h b v × (length walk ≡ 1))
          ⊎ ((u : ℕ) × (front : List Step) × IsWalk h b u front × (length front + 1 ≡ length walk) × IsCausalPair h u v) → (u : ℕ) × IsCausalPair h u v × (steps_at l b lengths u + 1 ≤ length walk)
      go l all allowed (inl (pair, one)) = (b, pair, omega (arith, at_start l, one))
      go level.Causal all allowed (inr (u, front, is, long, pair)) = (u, pair, fewer (cases_eq u b))
        where
          fewer : (u ≡ b) ⊎ (u ≢ b) → steps_at level.Causal b lengths u + 1 ≤ length walk
          fewer (inl here) = subst (λ (z : ℕ). steps_at level.Causal b lengths z + 1 ≤ length walk) (sym here) (omega (arith, at_start level.Causal, long))
          fewer (inr other) =
              let same : steps_at level.Causal b lengths u ≡ get_or lengths u 0 = rw (ne_eqb u b other) refl in
              omega (arith, same, long, all u front (pair_below h u v pair).0 (is, tt) (omega (arith, long, short)) (omega (arith, long, within)))
      go level.Atomic all allowed (inr (u, front, is, long, pair)) = absurd (omega (arith, is.0, long, allowed.1))

  module _ (l : Level) (n : ℕ) (old new : List ℕ) (w : AreMeasured (judged h l) b most n old) (lowered : AreLowered (judged h l) b most old new) where
    pub measured_more : AreMeasured (judged h l) b most (n + 1) new
    measured_more = record {
      long = lowered.same ∙ w.long;
      high = λ v m. omega (arith, w.high v m, lowered.kept v);
      attained = lowered.attained w.attained;
      all = all;
    }
      where
        all : (v : ℕ) (walk : List Step) → v < count h → IsAllowedWalk (judged h l) b v walk → length walk ≤ n + 1 → length walk ≤ most → get_or new v 0 ≤ length walk
        all v walk m allowed short within =
            let (u, pair, few) = came l old n w.all v walk allowed short within in
            omega (arith, lowered.over u v pair (omega (arith, few, within)), few)

    -- where nothing is new, no longer walk leads to anything new
    module _ (still : (v : ℕ) → v < count h → get_or new v 0 ≡ get_or old v 0) where
      longer : (more : ℕ) (v : ℕ) (walk : List Step) → v < count h → IsAllowedWalk (judged h l) b v walk → length walk ≤ n + more → length walk ≤ most
          → get_or old v 0 ≤ length walk
      longer zero v walk m allowed short within = w.all v walk m allowed (omega (arith, short)) within
      longer (suc more) v walk m allowed short within =
          let (u, pair, few) = came l old (n + more) (longer more) v walk allowed (omega (arith, short)) within in
          omega (arith, lowered.over u v pair (omega (arith, few, within)), few, still v m)

      pub measured_still : AreMeasured (judged h l) b most most new
      measured_still = record {
        long = measured_more.long;
        high = measured_more.high;
        attained = measured_more.attained;
        all = λ v walk m allowed short within. omega (arith, still v m, longer most v walk m allowed (omega (arith, within)) within);
      }

pub measured_all : (j : Judged) (b most n : ℕ) (lengths : List ℕ) → most ≤ n → AreMeasured j b most n lengths → AreWalkLengths j b most lengths
measured_all j b most n lengths all w = record {
  long = w.long;
  high = w.high;
  sound = w.attained;
  all = λ v walk m allowed short. w.all v walk m allowed (omega (arith, short, all)) short;
}
