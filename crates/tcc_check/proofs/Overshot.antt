-- What the first links of a list say about a row.
use Rattle.std.proofs.Common.{◌≡◌, ◌<◌, ◌≤◌, ◌+◌, ◌-◌, ℕ, ◌⊎◌, inl, inr, List, length, get_or, take, drop, Option, None, Some, arith, sym, ap, subst, ◌∙◌}
use Rattle.std.specs.Prelude.{All}
use Rattle.std.proofs.lemmas.Bool.{cases_eq, cases_lt}
use Rattle.std.proofs.lemmas.List.{get_or_default}
use Rattle.tcc_check.specs.private.Weights.{AreByWeight}
use Rattle.tcc_check.specs.private.Groups.{AreGroupsOf, links_by}
use Rattle.tcc_check.specs.private.Searches.{IsFoundBelow, IsOvershot, IsOvershotAt, IsLongOther, lesser}
use Rattle.tcc_check.specs.private.WeightsFrom.{ends_of}
use Rattle.tcc_check.proofs.Entries.{capped_at}
use Rattle.tcc_check.proofs.Found.{found_as, found_either, found_here}
use Rattle.tcc_check.proofs.Grouped.{at_run, begin, group, in_run, run_long}

-- one of the first i links costs less
abbrev pub SeenOver : ℕ → List (ℕ × ℕ) → List ℕ → ℕ → ℕ → ℕ → Type 0
SeenOver i ends row low before v =
    (low ≤ v) × (k : ℕ) × (k < i) × ((get_or ends k (0, 0)).0 ≡ v) × (before + 1 + (get_or ends k (0, 0)).1 < get_or row (v - low) 0)

module _ (ends : List (ℕ × ℕ)) (row : List ℕ) (low before : ℕ) where
  abbrev n : ℕ
  n = low + length row

  pub none_over : IsFoundBelow n (SeenOver 0 ends row low before) None
  none_over = λ a l p. absurd (omega (arith, p.2))

  to_over : (i v : ℕ) → i ≤ length ends → SeenOver i ends row low before v → IsOvershot ends row low before v
  to_over i v upto (low_v, k, l, is, more) = (
    low_v,
    (get_or ends k (0, 0)).1,
    (k, omega (arith, l, upto), get_or_default ends k _ (0, 0) (omega (arith, l, upto)) ∙ whole (get_or ends k (0, 0)) is),
    more,
  )
    where
      whole : (link : ℕ × ℕ) → link.0 ≡ v → link ≡ (v, link.1)
      whole link same = ap (λ z. (z, link.1)) same

  from_over : (v : ℕ) → IsOvershot ends row low before v → SeenOver (length ends) ends row low before v
  from_over v (low_v, w, (k, l, is), more) =
      let here : get_or ends k (0, 0) ≡ (v, w) = get_or_default ends k (0, 0) (v, w) l ∙ is in
      (low_v, k, l, ap (λ (z : ℕ × ℕ). z.0) here, omega (arith, ap (λ (z : ℕ × ℕ). z.1) here, more))

  pub all_over : (i : ℕ) (found : Option ℕ) → i ≡ length ends → IsFoundBelow n (SeenOver i ends row low before) found
      → IsFoundBelow n (IsOvershot ends row low before) found
  all_over i found all =
      found_as n (SeenOver i ends row low before) (IsOvershot ends row low before) (λ v p. to_over i v (omega (arith, all)) p)
      (λ v p. subst (λ (z : ℕ). SeenOver z ends row low before v) (sym all) (from_over v p)) found

  -- after a link that costs as much as anything the row has, none costs less
  pub rest_over : (i most : ℕ) (found : Option ℕ) → i < length ends → AreByWeight ends → All (λ value. value ≤ most) row
      → most ≤ before + 1 + (get_or ends i (0, 0)).1 → IsFoundBelow n (SeenOver i ends row low before) found
      → IsFoundBelow n (IsOvershot ends row low before) found
  rest_over i most found inside sorted capped enough =
      found_as n (SeenOver i ends row low before) (IsOvershot ends row low before) (λ v p. to_over i v (omega (arith, inside)) p)
      (λ v p. back v (from_over v p)) found
    where
      back : (v : ℕ) → SeenOver (length ends) ends row low before v → SeenOver i ends row low before v
      back v (low_v, k, l, is, more) = go (cases_lt k i)
        where
          go : (k < i) ⊎ (i ≤ k) → SeenOver i ends row low before v
          go (inl less) = (low_v, k, less, is, more)
          go (inr later) = absurd (omega (arith, sorted i k (0, 0) later l, more, capped_at row most capped (v - low), enough))

-- one of the links from the first starts costs less
abbrev pub SeenOther : ℕ → List (List (ℕ × ℕ)) → List ℕ → ℕ → ℕ → Type 0
SeenOther i others row low v =
    (u : ℕ) × (low ≤ u) × (u < low + i) × IsOvershot (ends_of others u) row low (get_or row (u - low) 0) v

module _ (others : List (List (ℕ × ℕ))) (row : List ℕ) (low : ℕ) (P : ℕ → Type 0) where
  abbrev m : ℕ
  m = low + length row

  pub none_other : (found : Option ℕ) → IsFoundBelow m P found → IsFoundBelow m (λ v. P v ⊎ SeenOther 0 others row low v) found
  none_other found = found_as m P (λ v. P v ⊎ SeenOther 0 others row low v) (λ v p. inl p) back found
    where
      back : (v : ℕ) → P v ⊎ SeenOther 0 others row low v → P v
      back v (inl p) = p
      back v (inr (u, low_u, less, over)) = absurd (omega (arith, low_u, less))

  pub more_other : (i : ℕ) (found end : Option ℕ) (ends : List (ℕ × ℕ)) (before : ℕ) → ends ≡ ends_of others (low + i) → before ≡ get_or row i 0
      → IsFoundBelow m (λ v. P v ⊎ SeenOther i others row low v) found → IsFoundBelow m (IsOvershot ends row low before) end
      → IsFoundBelow m (λ v. P v ⊎ SeenOther (i + 1) others row low v) (lesser found end)
  more_other i found end ends before are is old new =
      found_as m (λ v. (P v ⊎ SeenOther i others row low v) ⊎ IsOvershot ends row low before v) (λ v. P v ⊎ SeenOther (i + 1) others row low v) to back
      (lesser found end)
      (found_either m (λ v. P v ⊎ SeenOther i others row low v) (IsOvershot ends row low before) found end old new)
    where
      number : before ≡ get_or row ((low + i) - low) 0
      number = is ∙ ap (λ k. get_or row k 0) (omega arith)

      to : (v : ℕ) → (P v ⊎ SeenOther i others row low v) ⊎ IsOvershot ends row low before v → P v ⊎ SeenOther (i + 1) others row low v
      to v (inl (inl p)) = inl p
      to v (inl (inr (u, low_u, less, over))) = inr (u, low_u, omega (arith, less), over)
      to v (inr over) =
          inr (
            low + i,
            omega arith,
            omega arith,
            subst (λ (z : ℕ). IsOvershot (ends_of others (low + i)) row low z v) number
                (subst (λ (e : List (ℕ × ℕ)). IsOvershot e row low before v) are over),
          )

      back : (v : ℕ) → P v ⊎ SeenOther (i + 1) others row low v → (P v ⊎ SeenOther i others row low v) ⊎ IsOvershot ends row low before v
      back v (inl p) = inl (inl p)
      back v (inr (u, low_u, less, over)) = go (cases_eq u (low + i))
        where
          go : (u ≡ low + i) ⊎ (u ≡ low + i → ⊥) → (P v ⊎ SeenOther i others row low v) ⊎ IsOvershot ends row low before v
          go (inl same) =
              let here : IsOvershot (ends_of others (low + i)) row low (get_or row ((low + i) - low) 0) v =
              subst (λ (z : ℕ). IsOvershot (ends_of others z) row low (get_or row (z - low) 0) v) same over in
              inr (subst (λ (e : List (ℕ × ℕ)). IsOvershot e row low before v) (sym are)
              (subst (λ (z : ℕ). IsOvershot (ends_of others (low + i)) row low z v) (sym number) here))
          go (inr apart) = inl (inr (u, low_u, omega (arith, less, apart), over))

  pub all_other : (i : ℕ) (found : Option ℕ) → i ≡ length row → IsFoundBelow m (λ v. P v ⊎ SeenOther i others row low v) found
      → IsFoundBelow m (λ v. P v ⊎ IsLongOther others row low v) found
  all_other i found all old = subst (λ (z : ℕ). IsFoundBelow m (λ v. P v ⊎ SeenOther z others row low v) found) all old

-- ---- ends of one group

-- one of the first i ends is overshot
abbrev pub SeenAt : ℕ → List ℕ → List ℕ → ℕ → ℕ → ℕ → Type 0
SeenAt i ends row low cost v = (low ≤ v) × (k : ℕ) × (k < i) × (get_or ends k 0 ≡ v) × (cost < get_or row (v - low) 0)

module _ (ends row : List ℕ) (low cost : ℕ) where
  abbrev o : ℕ
  o = low + length row

  pub none_at : IsFoundBelow o (SeenAt 0 ends row low cost) None
  none_at = λ a l p. absurd (omega (arith, p.2))

  older_at : (i v : ℕ) → SeenAt i ends row low cost v → SeenAt (i + 1) ends row low cost v
  older_at i v (low_v, k, l, is, more) = (low_v, k, omega (arith, l), is, more)

  newer_at : (i v : ℕ) → SeenAt (i + 1) ends row low cost v → SeenAt i ends row low cost v
      ⊎ ((low ≤ v) × (get_or ends i 0 ≡ v) × (cost < get_or row (v - low) 0))
  newer_at i v (low_v, k, l, is, more) = go (cases_eq k i)
    where
      go : (k ≡ i) ⊎ (k ≡ i → ⊥) → SeenAt i ends row low cost v ⊎ ((low ≤ v) × (get_or ends i 0 ≡ v) × (cost < get_or row (v - low) 0))
      go (inl same) = inr (low_v, subst (λ (z : ℕ). get_or ends z 0 ≡ v) same is, more)
      go (inr apart) = inl (low_v, k, omega (arith, l, apart), is, more)

  pub skipped_at : (i : ℕ) (found : Option ℕ) → (low ≤ get_or ends i 0 → cost < get_or row (get_or ends i 0 - low) 0 → ⊥)
      → IsFoundBelow o (SeenAt i ends row low cost) found → IsFoundBelow o (SeenAt (i + 1) ends row low cost) found
  skipped_at i found not = found_as o (SeenAt i ends row low cost) (SeenAt (i + 1) ends row low cost) (older_at i) (λ v p. back v (newer_at i v p)) found
    where
      back : (v : ℕ) → SeenAt i ends row low cost v ⊎ ((low ≤ v) × (get_or ends i 0 ≡ v) × (cost < get_or row (v - low) 0)) → SeenAt i ends row low cost v
      back v (inl old) = old
      back v (inr (low_v, is, more)) = absurd (not (omega (arith, low_v, is)) (subst (λ (z : ℕ). cost < get_or row (z - low) 0) (sym is) more))

  pub found_at : (i e : ℕ) (found : Option ℕ) → get_or ends i 0 ≡ e → e < o → low ≤ e → cost < get_or row (e - low) 0
      → IsFoundBelow o (SeenAt i ends row low cost) found → IsFoundBelow o (SeenAt (i + 1) ends row low cost) (lesser found (Some e))
  found_at i e found is below low_e more old =
      found_as o (λ v. SeenAt i ends row low cost v ⊎ (v ≡ e)) (SeenAt (i + 1) ends row low cost) to (λ v p. back v (newer_at i v p)) (lesser found (Some e))
      (found_either o (SeenAt i ends row low cost) (λ v. v ≡ e) found (Some e) old (found_here o e below))
    where
      to : (v : ℕ) → SeenAt i ends row low cost v ⊎ (v ≡ e) → SeenAt (i + 1) ends row low cost v
      to v (inl old) = older_at i v old
      to v (inr same) = rw same (low_e, i, omega arith, is, more)

      back : (v : ℕ) → SeenAt i ends row low cost v ⊎ ((low ≤ v) × (get_or ends i 0 ≡ v) × (cost < get_or row (v - low) 0))
          → SeenAt i ends row low cost v ⊎ (v ≡ e)
      back v (inl old) = inl old
      back v (inr (low_v, here, most)) = inr (sym here ∙ is)

  pub all_at : (i : ℕ) (found : Option ℕ) → i ≡ length ends → IsFoundBelow o (SeenAt i ends row low cost) found
      → IsFoundBelow o (IsOvershotAt ends row low cost) found
  all_at i found all = found_as o (SeenAt i ends row low cost) (IsOvershotAt ends row low cost) to back found
    where
      to : (v : ℕ) → SeenAt i ends row low cost v → IsOvershotAt ends row low cost v
      to v (low_v, k, l, is, more) = (low_v, (k, omega (arith, l, all), get_or_default ends k v 0 (omega (arith, l, all)) ∙ is), more)

      back : (v : ℕ) → IsOvershotAt ends row low cost v → SeenAt i ends row low cost v
      back v (low_v, (k, l, is), more) = (low_v, k, omega (arith, l, all), get_or_default ends k 0 v l ∙ is, more)

-- ---- one more group

module _ (groups : List (ℕ × ℕ)) (ends : List ℕ) (are : AreGroupsOf groups ends) (row : List ℕ) (low before i : ℕ) (run : List ℕ)
    (inside : i < length groups) (is : run ≡ take (group groups i).1 (drop (begin groups i) ends)) where
  abbrev q : ℕ
  q = low + length row

  abbrev Earlier : ℕ → Type 0
  Earlier v = SeenOver (begin groups i) (links_by groups ends) row low before v

  abbrev Here : ℕ → Type 0
  Here v = IsOvershotAt run row low (before + 1 + (group groups i).0) v

  abbrev Later : ℕ → Type 0
  Later v = SeenOver (begin groups i + (group groups i).1) (links_by groups ends) row low before v

  long : length run ≡ (group groups i).1
  long = run_long groups ends are i run inside is

  to_group : (v : ℕ) → Earlier v ⊎ Here v → Later v
  to_group v (inl (low_v, k, l, same, more)) = (low_v, k, omega (arith, l), same, more)
  to_group v (inr (low_v, (k, l, same), more)) =
      let here = at_run groups ends are i run inside is k (omega (arith, l, long)) in (
        low_v,
        begin groups i + k,
        omega (arith, l, long),
        ap (λ (z : ℕ × ℕ). z.0) here ∙ get_or_default run k 0 v l ∙ same,
        omega (arith, ap (λ (z : ℕ × ℕ). z.1) here, more),
      )

  from_group : (v : ℕ) → Later v → Earlier v ⊎ Here v
  from_group v (low_v, k, l, same, more) = go (cases_lt k (begin groups i))
    where
      go : (k < begin groups i) ⊎ (begin groups i ≤ k) → Earlier v ⊎ Here v
      go (inl less) = inl (low_v, k, less, same, more)
      go (inr later) =
          let short : k - begin groups i < length run = omega (arith, l, later, long) in
          let here = in_run groups ends are i run inside is k later l in
          inr (
            low_v,
            (k - begin groups i, short, get_or_default run (k - begin groups i) v 0 short ∙ sym (ap (λ (z : ℕ × ℕ). z.0) here) ∙ same),
            omega (arith, ap (λ (z : ℕ × ℕ). z.1) here, more),
          )

  pub more_group : (found end : Option ℕ) → IsFoundBelow q Earlier found → IsFoundBelow q Here end → IsFoundBelow q Later (lesser found end)
  more_group found end old new =
      found_as q (λ v. Earlier v ⊎ Here v) Later to_group from_group (lesser found end) (found_either q Earlier Here found end old new)
