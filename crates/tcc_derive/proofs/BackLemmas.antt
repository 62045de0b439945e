-- Walks from the last step backwards, and the first of them.
use Rattle.std.proofs.Common.{ℕ, ◌+◌, ◌<◌, ◌≡◌, ◌≢◌, ◌⊎◌, ◌↔◌, inl, inr, true, List, [], ◌∷◌, ◌++◌}
use Rattle.std.proofs.Common.{length, length-append, get_or, reverse, refl, sym, ◌∙◌, subst, arith}
use Rattle.std.specs.Cmp.Lexicographic.{slice_cmp}
use Rattle.std.specs.declared.cmp.Ordering.TheVariants.{Greater}
use Rattle.std.proofs.lemmas.Bool.{eqb-true, eq-eqb, ne_eqb, cases_eq}
use Rattle.std.proofs.lemmas.List.{reverse-append, reverse-reverse, length-reverse}
use Rattle.tcc_reads.specs.History.{History, count}
use Rattle.tcc_graph.specs.Walks.{step_from, step_to, IsStep, Leads, IsWalk}
use Rattle.tcc_graph.specs.Levels.{Judged, IsAllowed, IsAllowedWalk}
use Rattle.tcc_graph.specs.Ties.{step_cmp}
use Rattle.tcc_graph.specs.declared.level.Level.{Level}
use Rattle.tcc_graph.specs.declared.level.Level.TheVariants as level
use Rattle.tcc_graph.specs.declared.step.Step.{Step}
use Rattle.tcc_near.specs.WalkLengths.{NearTable, IsShortest, IsNearOf}
use Rattle.tcc_derive.specs.Backwards.{IsFirstWalk}
use Rattle.tcc_derive.specs.private.LeadingBack.{IsUpTo, IsLastStep, stands_at, LeadsBack, Ahead, IsLeft, IsTakenBack}
use Rattle.tcc_derive.proofs.PriceLemmas.{IsOut, IsNearby, distance_cases, no_distance}
use Rattle.tcc_graph.proofs.Pairs.{step_below}
use Rattle.tcc_near.specs.declared.walk_lengths.TheConstants.{NONE}
use Rattle.tcc_graph.specs.Tables.{row_of}
use Rattle.tcc_graph.proofs.Tied.{step_itself}
use Rattle.tcc_graph.proofs.Walking.{leads_append}

module _ (h : History) where
  back_join : (b m v : ℕ) (ss ts : List Step) → LeadsBack h m v ss → LeadsBack h b m ts → LeadsBack h b v (ss ++ ts)
  back_join b m v [] ts e second = subst (λ (z : ℕ). LeadsBack h b z ts) e second
  back_join b m v (s ∷ ss) ts first second = (first.0, first.1, back_join b m (step_from s) ss ts first.2 second)

  pub back_of_leads : (a c : ℕ) (walk : List Step) → Leads h a c walk → LeadsBack h a c (reverse walk)
  back_of_leads a c [] e = e
  back_of_leads a c (s ∷ walk) w =
      subst (λ (ss : List Step). LeadsBack h a c ss) (sym (reverse-append (s ∷ []) walk))
      (back_join a (step_to s) c (reverse walk) (s ∷ []) (back_of_leads (step_to s) c walk w.2) (refl, w.1, sym w.0))

  pub leads_of_back : (a c : ℕ) (ss : List Step) → LeadsBack h a c ss → Leads h a c (reverse ss)
  leads_of_back a c [] e = e
  leads_of_back a c (s ∷ ss) w =
      subst (λ (ts : List Step). Leads h a c ts) (sym (reverse-append (s ∷ []) ss))
      (leads_append h a (step_from s) c (reverse ss) (s ∷ []) (leads_of_back a (step_from s) ss w.2) (refl, w.1, w.0))

  -- one more step keeps the steps first
  ahead_more : (b c v : ℕ) (taken others : List Step) (s : Step) (n : ℕ) → Ahead taken others → LeadsBack h v c taken → LeadsBack h b c others
      → length others ≡ length taken + (n + 1)
      → ((o : Step) (os : List Step) → LeadsBack h b v (o ∷ os) → length os ≡ n → IsUpTo s o) → Ahead (taken ++ s ∷ []) others
  ahead_more b c v [] [] s n ahead back other long pick = absurd (omega (arith, long))
  ahead_more b c v [] (o ∷ os) s n ahead back other long pick =
      go (pick o os (subst (λ (z : ℕ). LeadsBack h b z (o ∷ os)) (sym back) other) (omega (arith, long)))
    where
      go : IsUpTo s o → Ahead (s ∷ []) (o ∷ os)
      go (inl less) = inl less
      go (inr same) = inr (same, tt)
  ahead_more b c v (t ∷ taken) [] s n ahead back other long pick = absurd ahead
  ahead_more b c v (t ∷ taken) (o ∷ os) s n (inl less) back other long pick = inl less
  ahead_more b c v (t ∷ taken) (o ∷ os) s n (inr (same, ahead)) back other long pick =
      inr (
        same,
        ahead_more b (step_from o) v taken os s n ahead (subst (λ (z : Step). LeadsBack h v (step_from z) taken) same back.2) other.2
            (omega (arith, long)) pick,
      )

  ahead_cmp : (ss os : List Step) → Ahead ss os → length os ≡ length ss → slice_cmp step_cmp ss os ≢ Greater
  ahead_cmp [] [] ahead long e = absurd cc
  ahead_cmp [] (o ∷ os) ahead long e = absurd cc
  ahead_cmp (s ∷ ss) [] ahead long e = absurd ahead
  ahead_cmp (s ∷ ss) (o ∷ os) (inl less) long e = let e' = rw less at e in absurd cc
  ahead_cmp (s ∷ ss) (o ∷ os) (inr (same, ahead)) long e =
      let e' = rw (same, step_itself o) at e in
      ahead_cmp ss os ahead (omega (arith, long)) e'

-- whether a level allows a walk depends on its length
any_allowed : (level : Level) (walk other : List Step) → IsAllowed level walk → 1 < length walk → IsAllowed level other
any_allowed level.Causal walk other is several = tt
any_allowed level.Atomic walk other is several = let one : length walk ≡ 1 = is in absurd (omega arith)

same_allowed : (level : Level) (walk other : List Step) → IsAllowed level walk → length other ≡ length walk → IsAllowed level other
same_allowed level.Causal walk other is same = tt
same_allowed level.Atomic walk other is same = same ∙ is

-- a row has the length of each shortest walk from b that has fewer steps than a limit
abbrev pub HasLengths : Judged → ℕ → ℕ → List ℕ → Type 0
HasLengths j b top steps = (v n : ℕ) → v < count j.history → 0 < n → n < top → (get_or steps v 0 ≡ n) ↔ IsShortest j b v n

-- as each row of a table of walk lengths has
module _ (j : Judged) (near : NearTable) (b : ℕ) (nears : IsNearOf j near) (from : b < count j.history) where
  pub lengths_of : HasLengths j b NONE (row_of near.rows b)
  lengths_of v n below some few = (there, back)
    where
      there : get_or (row_of near.rows b) v 0 ≡ n → IsShortest j b v n
      there at = go (distance_cases j near b v nears from below)
        where
          go : IsOut j b v ⊎ IsNearby j b v (get_or (row_of near.rows b) v 0) → IsShortest j b v n
          go (inl none) = absurd (omega (arith, no_distance j near b v nears from below none))
          go (inr near') = rw at at near'.shortest

      back : IsShortest j b v n → get_or (row_of near.rows b) v 0 ≡ n
      back shortest = go (distance_cases j near b v nears from below)
        where
          go : IsOut j b v ⊎ IsNearby j b v (get_or (row_of near.rows b) v 0) → get_or (row_of near.rows b) v 0 ≡ n
          go (inl none) = let (walk, allowed, long) = shortest.attained in absurd (none walk allowed)
          go (inr near') =
              let (walk, allowed, long) = shortest.attained in
              let (other, others, same) = near'.shortest.attained in
              omega (arith, near'.shortest.least walk allowed, shortest.least other others, long, same)

  -- at the end of the walk
  pub at_end : (c : ℕ) → c < count j.history → get_or (row_of near.rows b) c 0 < NONE → IsShortest j b c (get_or (row_of near.rows b) c 0)
  at_end c to reached = go (distance_cases j near b c nears from to)
    where
      go : IsOut j b c ⊎ IsNearby j b c (get_or (row_of near.rows b) c 0) → IsShortest j b c (get_or (row_of near.rows b) c 0)
      go (inl none) = absurd (omega (arith, no_distance j near b c nears from to none))
      go (inr near') = near'.shortest

-- the way back to the start
module _ (j : Judged) (b top : ℕ) (steps : List ℕ) (exact : HasLengths j b top steps) where
  no_steps : (u : ℕ) (os : List Step) → length os ≡ 0 → LeadsBack j.history b u os → b ≡ u
  no_steps u [] long back = back
  no_steps u (o ∷ os) long back = absurd (omega (arith, long))

  -- if a shortest walk has several steps, the level allows any walk
  several_allowed : (v n : ℕ) (other : List Step) → IsShortest j b v (n + 1) → 0 < n → IsAllowed j.level other
  several_allowed v n other shortest some = let walk = shortest.attained in any_allowed j.level walk.0 other walk.1.1 (omega (arith, walk.2))

  -- the level allows what is left of a shortest walk before its last step
  way_allowed : (v n : ℕ) (o : Step) (os : List Step) → IsShortest j b v (n + 1) → LeadsBack j.history b v (o ∷ os) → length os ≡ n → 0 < n
      → IsAllowedWalk j b (step_from o) (reverse os)
  way_allowed v n o os shortest back long some =
      ((omega (arith, length-reverse os), leads_of_back j.history b (step_from o) os back.2), several_allowed v n (reverse os) shortest some)

  -- nothing shorter leads there
  way_shortest : (v n : ℕ) (o : Step) (os : List Step) → IsShortest j b v (n + 1) → LeadsBack j.history b v (o ∷ os) → length os ≡ n → 0 < n
      → IsShortest j b (step_from o) n
  way_shortest v n o os shortest back long some = record {
    attained = (reverse os, way_allowed v n o os shortest back long some, length-reverse os ∙ long);
    least = λ walk allowed.
        let whole : IsWalk j.history b v (walk ++ o ∷ []) =
        (omega (arith, length-append walk (o ∷ [])), leads_append j.history b (step_from o) v walk (o ∷ []) allowed.0.1 (refl, back.1, back.0)) in
        let longer = shortest.least (walk ++ o ∷ []) (whole, several_allowed v n (walk ++ o ∷ []) shortest some) in
        omega (arith, longer, length-append walk (o ∷ []));
  }

  pub stands_of : (v n : ℕ) (o : Step) (os : List Step) → n < top → IsLeft j b v (n + 1) → LeadsBack j.history b v (o ∷ os) → length os ≡ n
      → stands_at steps b (step_from o) n ≡ true
  stands_of v n o os few left back long = go (cases_eq n 0)
    where
      go : (n ≡ 0) ⊎ (n ≡ 0 → ⊥) → stands_at steps b (step_from o) n ≡ true
      go (inl none) = rw none (eq-eqb (step_from o) b (sym (no_steps (step_from o) os (long ∙ none) back.2)))
      go (inr some) =
          let at : get_or steps (step_from o) 0 ≡ n
          =
          (exact (step_from o) n (step_below j.history o back.1).0 (omega (arith, some)) few).1
          (way_shortest v n o os (left.some (omega arith)) back long (omega (arith, some))) in
          rw (ne_eqb n 0 some) (eq-eqb (get_or steps (step_from o) 0) n at)

  pub left_of : (u n : ℕ) → u < count j.history → n < top → stands_at steps b u n ≡ true → IsLeft j b u n
  left_of u n below few stands = go (cases_eq n 0)
    where
      go : (n ≡ 0) ⊎ (n ≡ 0 → ⊥) → IsLeft j b u n
      go (inl none) = record { some = λ l. absurd (omega arith); none = λ e. sym (eqb-true u b (rw none at stands)) }
      go (inr some) = record {
        some = λ l. (exact u n below l few).0 (eqb-true (get_or steps u 0) n (rw (ne_eqb n 0 some) at stands));
        none = λ e. absurd (some e);
      }

  some_left : (c n : ℕ) → IsShortest j b c n → 0 < n
  some_left c n shortest = omega (arith, shortest.attained.1.0.0, shortest.attained.2)

  pub left_at_end : (c n : ℕ) → IsShortest j b c n → IsLeft j b c n
  left_at_end c n shortest = record { some = λ l. shortest; none = λ e. absurd (omega (arith, some_left c n shortest)) }

  pub nothing_taken : (c n : ℕ) → IsTakenBack j.history b c n c []
  nothing_taken c n = record { back = refl; first = λ others back long. tt }

  -- there is a step to take
  pub never_stuck : (v n : ℕ) → n < top → IsLeft j b v (n + 1)
      → ((o : Step) → IsStep j.history o → step_to o ≡ v → stands_at steps b (step_from o) n ≡ true → ⊥) → ⊥
  never_stuck v n few left none =
      let walk = (left.some (omega arith)).attained in
      go (reverse walk.0) (back_of_leads j.history b v walk.0 walk.1.0.1) (omega (arith, walk.2, length-reverse walk.0))
    where
      go : (ss : List Step) → LeadsBack j.history b v ss → length ss ≡ n + 1 → ⊥
      go [] back long = omega (arith, long)
      go (o ∷ os) back long = none o back.1 back.0 (stands_of v n o os few left back (omega (arith, long)))

  pub taken_more : (c total v n : ℕ) (taken : List Step) (s : Step) → n < top → IsTakenBack j.history b c total v taken → IsLeft j b v (n + 1)
      → IsLastStep j.history steps b v n s → total ≡ length taken + (n + 1)
      → IsTakenBack j.history b c total (step_from s) (taken ++ s ∷ [])
  taken_more c total v n taken s few before left last long = record {
    back = back_join j.history (step_from s) v c taken (s ∷ []) before.back (last.to, last.step, refl);
    first = λ others back same. ahead_more j.history b c v taken others s n (before.first others back same) before.back back (same ∙ long)
        (λ o os way m. last.first o way.1 way.0 (stands_of v n o os few left way m));
  }

  pub walk_of : (c n : ℕ) (taken : List Step) → IsTakenBack j.history b c n b taken → length taken ≡ n → IsShortest j b c n → IsFirstWalk j b c (reverse taken)
  walk_of c n taken back long shortest = record {
    leads =
        let way : IsWalk j.history b c (reverse taken) =
        (omega (arith, length-reverse taken, some_left c n shortest), leads_of_back j.history b c taken back.back) in
        let walk = shortest.attained in
        (way, same_allowed j.level walk.0 (reverse taken) walk.1.1 (omega (arith, walk.2, length-reverse taken)));
    least = λ others walk. let low = shortest.least others walk in omega (arith, length-reverse taken);
    first = λ others walk same.
        let ahead = back.first (reverse others) (back_of_leads j.history b c others walk.0.1) (length-reverse others ∙ same ∙ length-reverse taken ∙ long) in
        rw (reverse-reverse taken) (ahead_cmp j.history taken (reverse others) ahead (length-reverse others ∙ same ∙ length-reverse taken));
  }
