-- Caps and limits, how many a row has, and how it is emptied.
use Rattle.std.proofs.Common.{◌≡◌, ◌≢◌, ◌<◌, ◌≤◌, ◌+◌, ◌==◌, ℕ, zero, suc, true, false, ◌⊎◌, inl}
use Rattle.std.proofs.Common.{inr, List, [], ◌∷◌, length, slice_index, Contains, Option, None, Some, set, refl, sym, ◌∙◌, ap, subst, arith}
use Rattle.std.proofs.Math.ListN.{get_or-eq_default}
use Rattle.std.proofs.lemmas.Bool.{cases_lt, cond_both}
use Rattle.std.proofs.lemmas.Bool.Decides.{eqb_tells}
use Rattle.std.proofs.lemmas.Grind.{get_or_default_zero}
use Rattle.tcc_core.specs.Rows.{in_row, cap_of, IsWithin, IsEmptyRow}
use Rattle.tcc_core.specs.private.Relaxing.{count_joined}
use Rattle.tcc_core.specs.declared.queue.TheConstants.{NO_WAY}

-- ---- caps and limits

pub within_cap : (cap d : ℕ) → d ≤ cap → IsWithin (cap_of cap) d
within_cap cap d low = cond_both (cap == 18446744073709551615) None (Some cap) (λ o. IsWithin o d) (λ e. tt) (λ e. low)

pub capped_low : (cap m n : ℕ) → m ≤ n → m ≤ NO_WAY → IsWithin (cap_of cap) n → m ≤ cap
capped_low cap m n low few = go (eqb_tells cap 18446744073709551615)
  where
    go : (((cap == 18446744073709551615) ≡ true) × (cap ≡ 18446744073709551615)) ⊎ (((cap == 18446744073709551615) ≡ false) × (cap ≢ 18446744073709551615))
        → IsWithin (cap_of cap) n → m ≤ cap
    go (inl (test, same)) within = omega (arith, same, few)
    go (inr (test, other)) within = let under : n ≤ cap = rw test at within in omega (arith, under, low)

-- what is within a cap is within each limit that is not below it
pub within_down : (cap limit m n : ℕ) → m ≤ n → cap ≤ limit → limit ≤ 18446744073709551615 → IsWithin (cap_of cap) n → IsWithin (cap_of limit) m
within_down cap limit m n low up most = go (eqb_tells cap 18446744073709551615) (eqb_tells limit 18446744073709551615)
  where
    go : (((cap == 18446744073709551615) ≡ true) × (cap ≡ 18446744073709551615)) ⊎ (((cap == 18446744073709551615) ≡ false) × (cap ≢ 18446744073709551615))
        → (((limit == 18446744073709551615) ≡ true) × (limit ≡ 18446744073709551615))
        ⊎ (((limit == 18446744073709551615) ≡ false) × (limit ≢ 18446744073709551615)) → IsWithin (cap_of cap) n → IsWithin (cap_of limit) m
    go any (inl (check, none)) within = rw check tt
    go (inl (test, same)) (inr (check, some)) within = absurd (some (omega (arith, same, up, most)))
    go (inr (test, other)) (inr (check, some)) within = let under : n ≤ cap = rw test at within in within_cap limit m (omega (arith, under, low, up))

-- ---- how many a row has

pub joined_set : (row : List (Option ℕ)) (v d : ℕ) → v < length row → in_row row v ≡ None → count_joined (set row v (Some d)) ≡ count_joined row + 1
joined_set [] v d within out = absurd (omega arith)
joined_set (None ∷ row) zero d within out = refl
joined_set (Some c ∷ row) zero d within out = cc
joined_set (None ∷ row) (suc v) d within out = joined_set row v d (omega arith) out
joined_set (Some c ∷ row) (suc v) d within out = ap (λ n. n + 1) (joined_set row v d (omega arith) out)

pub joined_most : (row : List (Option ℕ)) → count_joined row ≤ length row
joined_most [] = omega arith
joined_most (None ∷ row) = omega (arith, joined_most row)
joined_most (Some c ∷ row) = omega (arith, joined_most row)

pub joined_below : (row : List (Option ℕ)) (v : ℕ) → v < length row → in_row row v ≡ None → count_joined row < length row
joined_below [] v within out = absurd (omega arith)
joined_below (None ∷ row) v within out = omega (arith, joined_most row)
joined_below (Some c ∷ row) zero within out = cc
joined_below (Some c ∷ row) (suc v) within out = omega (arith, joined_below row v (omega arith) out)

-- ---- what a row has is at an index below its length

pub within_row : (row : List (Option ℕ)) (v c : ℕ) → in_row row v ≡ Some c → v < length row
within_row row v c e = go (cases_lt v (length row))
  where
    go : (v < length row) ⊎ (length row ≤ v) → v < length row
    go (inl within) = within
    go (inr past) =
        let none : in_row row v ≡ None = get_or-eq_default row None past in
        cc

-- ---- a row from which everything was taken

pub emptied : (reached : List ℕ) (old new : List (Option ℕ)) → length new ≡ length old
    → ((k : ℕ) → k < length reached → in_row new (slice_index reached k) ≡ None)
    → ((v : ℕ) → v < length old → (in_row new v ≡ in_row old v) ⊎ (in_row new v ≡ None))
    → ((v : ℕ) → v < length old → in_row old v ≢ None → Contains reached v) → IsEmptyRow (length old) new
emptied reached old new long out kept each = record { long = long; empty = λ v. empty v (cases_lt v (length old)) }
  where
    taken : (v : ℕ) → Contains reached v → in_row new v ≡ None
    taken v (k, low, at) = subst (λ (u : ℕ). in_row new u ≡ None) (sym (get_or_default_zero reached k v low) ∙ at) (out k low)

    by : (v : ℕ) → v < length old → (o : Option ℕ) → in_row old v ≡ o → (in_row new v ≡ in_row old v) ⊎ (in_row new v ≡ None) → in_row new v ≡ None
    by v within any e (inr none) = none
    by v within None e (inl same) = same ∙ e
    by v within (Some c) e (inl same) = taken v (each v within (λ none. let other : None ≡ Some c = sym none ∙ e in cc))

    empty : (v : ℕ) → (v < length old) ⊎ (length old ≤ v) → in_row new v ≡ None
    empty v (inl within) = by v within (in_row old v) refl (kept v within)
    empty v (inr past) = get_or-eq_default new None (omega (arith, long))
