-- Buckets of members, by what it costs to come to them.
use Rattle.std.proofs.Common.{◌≡◌, ◌≢◌, ◌<◌, ◌≤◌, ◌+◌, ◌-◌, ◌⊎◌, ◌↔◌, inl, inr, ℕ, zero, suc, List, [], ◌∷◌, ◌++◌, length, get_or, set, refl, sym, ap, subst, ◌∙◌, arith, ⊎_elim}
use Rattle.std.specs.List.{Contains}
use Rattle.std.proofs.lemmas.Bool.{cases_eq, cases_lt}
use Rattle.std.proofs.lemmas.List.{get_or-append_right, get_or-set_other, get_or-set_same, get_or_append_left, get_or_default, get_or_past, length-set}
use Rattle.std.proofs.lemmas.List.Elements.{Contains-append_left, Contains-push, Contains-push_cases}
use Rattle.tcc_graph.specs.Tables.{row_of}
use Rattle.tcc_bits.proofs.Lists.{nothing_in}
use Rattle.tcc_lanes.specs.declared.pricing.TheConstants.{NONE}
use Rattle.tcc_lanes.specs.private.Buckets.{AreQueued, AreQueuedOn}

-- ---- one bucket more
of_one : (row : List ℕ) (i : ℕ) → row ≡ [] → get_or (row ∷ []) i [] ≡ []
of_one row zero is = is
of_one row (suc i) is = refl

pub longer : (buckets : List (List ℕ)) (k : ℕ) → row_of (buckets ++ [] ∷ []) k ≡ row_of buckets k
longer buckets k = go (cases_lt k (length buckets))
  where
    go : (k < length buckets) ⊎ (length buckets ≤ k) → row_of (buckets ++ [] ∷ []) k ≡ row_of buckets k
    go (inl inside) = get_or_append_left buckets ([] ∷ []) [] k inside
    go (inr past) =
        get_or-append_right buckets ([] ∷ []) (length buckets) k [] refl past ∙ (of_one [] (k - length buckets) refl ∙ sym (get_or_past buckets k [] past))

-- ---- one member more
pub put_in : (old mid new : List (List ℕ)) (p x : ℕ) (held : List ℕ) → ((k : ℕ) → row_of mid k ≡ row_of old k) → p < length mid
    → new ≡ set mid p (get_or mid p held ++ x ∷ []) → (k v : ℕ) → Contains (row_of new k) v ↔ (Contains (row_of old k) v ⊎ ((k ≡ p) × (v ≡ x)))
put_in old mid new p x held kept inside now k v = go (cases_eq k p)
  where
    here : row_of new p ≡ row_of old p ++ x ∷ []
    here = ap (λ (z : List (List ℕ)). row_of z p) now
        ∙ (get_or-set_same mid p (get_or mid p held ++ x ∷ []) [] inside
        ∙ ap (λ (z : List ℕ). z ++ x ∷ []) (get_or_default mid p held [] inside ∙ kept p))

    go : (k ≡ p) ⊎ (k ≢ p) → Contains (row_of new k) v ↔ (Contains (row_of old k) v ⊎ ((k ≡ p) × (v ≡ x)))
    go (inl is) = (
      (λ h. ⊎_elim (λ before. inl (subst (λ (z : ℕ). Contains (row_of old z) v) (sym is) before)) (λ e. inr (is, sym e))
          (Contains-push_cases (row_of old p) x v (rw (is, here) at h))),
      (λ h. rw (is, here) (⊎_elim (λ before. Contains-append_left (row_of old p) (x ∷ []) v (subst (λ (z : ℕ). Contains (row_of old z) v) is before))
          (λ e. subst (Contains (row_of old p ++ x ∷ [])) (sym e.1) (Contains-push (row_of old p) x)) h)),
    )
    go (inr other) =
        let same : row_of new k ≡ row_of old k
        = ap (λ (z : List (List ℕ)). row_of z k) now ∙ (get_or-set_other mid p k (get_or mid p held ++ x ∷ []) [] other ∙ kept k) in (
          (λ h. inl (rw same at h)),
          (λ h. rw same (⊎_elim (λ before. before) (λ e. absurd (other e.0)) h)),
        )

-- ---- costs that are lowered
pub queued_same : (costs : List ℕ) (buckets : List (List ℕ)) → AreQueuedOn costs buckets costs buckets
queued_same costs buckets = record { inside = λ k v h. inl h; queued = λ floor q. q }

pub queued_more : (costs mid new : List ℕ) (buckets mid_buckets new_buckets : List (List ℕ)) → length mid ≡ length costs
    → AreQueuedOn costs buckets mid mid_buckets → AreQueuedOn mid mid_buckets new new_buckets → AreQueuedOn costs buckets new new_buckets
queued_more costs mid new buckets mid_buckets new_buckets same first second = record {
  inside = λ k v h. ⊎_elim (λ before. first.inside k v before) (λ low. inr (omega (arith, low, same))) (second.inside k v h);
  queued = λ floor q. second.queued floor (first.queued floor q);
}

pub queued_one : (costs new : List ℕ) (buckets new_buckets : List (List ℕ)) (member cost : ℕ) → member < length costs → new ≡ set costs member cost
    → ((k v : ℕ) → Contains (row_of new_buckets k) v ↔ (Contains (row_of buckets k) v ⊎ ((k ≡ cost) × (v ≡ member))))
    → AreQueuedOn costs buckets new new_buckets
queued_one costs new buckets new_buckets member cost within is put = record {
  inside = λ k v h. ⊎_elim inl (λ e. inr (omega (arith, e.1, within))) ((put k v).0 h);
  queued = λ floor q v l low some. queued floor q v l low some (cases_eq v member);
}
  where
    queued : (floor : ℕ) → AreQueued floor costs buckets → (v : ℕ) → v < length new → floor ≤ get_or new v 0 → get_or new v 0 < NONE
        → (v ≡ member) ⊎ (v ≢ member) → Contains (row_of new_buckets (get_or new v 0)) v
    queued floor q v l low some (inl here) =
        (put (get_or new v 0) v).1
        (inr (ap (λ (z : ℕ). get_or new z 0) here ∙ (ap (λ (z : List ℕ). get_or z member 0) is ∙ get_or-set_same costs member cost 0 within), here))
    queued floor q v l low some (inr other) =
        let same : get_or new v 0 ≡ get_or costs v 0 = ap (λ (z : List ℕ). get_or z v 0) is ∙ get_or-set_other costs member v cost 0 other in
        let long : length new ≡ length costs = ap length is ∙ length-set costs member cost in
        (put (get_or new v 0) v).1
        (inl (subst (λ (z : ℕ). Contains (row_of buckets z) v) (sym same) (q v (omega (arith, l, long)) (omega (arith, low, same)) (omega (arith, some, same)))))

-- where no member has a cost, none has to be in a bucket
pub queued_none : (floor : ℕ) (costs : List ℕ) (buckets : List (List ℕ)) → ((v : ℕ) → v < length costs → get_or costs v 0 ≡ NONE) → AreQueued floor costs buckets
queued_none floor costs buckets none v l low some = absurd (omega (arith, none v l, some))

-- the bucket of a level is taken out: the members that cost more are in their buckets
pub queued_above : (level : ℕ) (costs : List ℕ) (buckets new_buckets : List (List ℕ)) → AreQueued level costs buckets → new_buckets ≡ set buckets level []
    → AreQueued (level + 1) costs new_buckets
queued_above level costs buckets new_buckets q is v l low some =
    let other : get_or costs v 0 ≢ level = λ e. omega (arith, e, low) in
    let same : row_of new_buckets (get_or costs v 0) ≡ row_of buckets (get_or costs v 0)
    = ap (λ (z : List (List ℕ)). row_of z (get_or costs v 0)) is ∙ get_or-set_other buckets level (get_or costs v 0) [] [] other in
    rw same (q v l (omega (arith, low)) some)

-- a member of a bucket was in it before too
pub was_in : (level : ℕ) (buckets new_buckets : List (List ℕ)) → new_buckets ≡ set buckets level [] → (k v : ℕ) → Contains (row_of new_buckets k) v
    → Contains (row_of buckets k) v
was_in level buckets new_buckets is k v h = go (cases_eq k level) (cases_lt level (length buckets))
  where
    go : (k ≡ level) ⊎ (k ≢ level) → (level < length buckets) ⊎ (length buckets ≤ level) → Contains (row_of buckets k) v
    go (inr other) q = rw (ap (λ (z : List (List ℕ)). row_of z k) is ∙ get_or-set_other buckets level k [] [] other) at h
    go (inl same) (inl inside) =
        absurd (nothing_in v (rw (same, ap (λ (z : List (List ℕ)). row_of z level) is ∙ get_or-set_same buckets level [] [] inside) at h))
    go (inl same) (inr past) =
        absurd (nothing_in v (rw (same, get_or_past new_buckets level [] (omega (arith, past, ap length is, length-set buckets level []))) at h))

-- where there are no buckets from a level on, a member whose cost is at least this level has none, and so none below a limit
pub not_in_past : (level : ℕ) (costs : List ℕ) (buckets : List (List ℕ)) → AreQueued level costs buckets → length buckets ≤ level → (most : ℕ) → most ≤ NONE
    → (v : ℕ) → v < length costs → level ≤ get_or costs v 0 → most ≤ get_or costs v 0
not_in_past level costs buckets q past most high v l more = go (cases_lt (get_or costs v 0) NONE)
  where
    go : (get_or costs v 0 < NONE) ⊎ (NONE ≤ get_or costs v 0) → most ≤ get_or costs v 0
    go (inr none) = omega (arith, none, high)
    go (inl some) =
        absurd (nothing_in v (subst (λ (z : List ℕ). Contains z v) (get_or_past buckets (get_or costs v 0) [] (omega (arith, past, more))) (q v l more some)))
