-- The numbers of needs that don't fall, each once.
use Rattle.std.proofs.Common.{ℕ, ◌≡◌, ◌<◌, ◌≤◌, ◌+◌, ◌-◌, ◌++◌, ◌⊎◌, inl, inr, List, [], ◌∷◌, length, length-append, get_or, map, refl, sym, ap, subst, ◌∙◌, arith}
use Rattle.std.specs.Prelude.{Contains, slice_index, slice_index_or}
use Rattle.std.proofs.lemmas.Bool.{cases_lt}
use Rattle.std.proofs.lemmas.List.{get_or_append_left, get_or_default, get_or_push}
use Rattle.std.proofs.lemmas.List.Elements.{Contains-append_left, Contains-push}
use Rattle.tcc_txn.proofs.Lists.{in_map, from_map}
use Rattle.tcc_slices.specs.private.Carrying.{IsRising}
use Rattle.tcc_slices.specs.private.Needing.{AreByNumber}
use Rattle.tcc_slices.specs.declared.needs.Need.{Need}

-- the numbers of the first i needs, of which the last is this one; those that follow aren't below it
pub record IsNumbered (needs : List (ℕ × Need)) (numbers : List ℕ) (last : ℕ) (i : ℕ) : Type 0 where
  pub some : 0 < length numbers
  pub first : slice_index numbers 0 ≡ 0
  pub end : slice_index numbers (length numbers - 1) ≡ last
  pub rising : IsRising numbers
  pub low : (j : ℕ) (d : ℕ × Need) → i ≤ j → j < length needs → last ≤ (slice_index_or needs j d).0
  pub all : (j : ℕ) (d : ℕ × Need) → j < i → j < length needs → Contains numbers (slice_index_or needs j d).0
  pub only : (k : ℕ) → 0 < k → k < length numbers → Contains (map (λ one. one.0) needs) (slice_index numbers k)

pub numbered_none : (needs : List (ℕ × Need)) → IsNumbered needs (0 ∷ []) 0 0
numbered_none needs = record {
  some = omega arith;
  first = refl;
  end = refl;
  rising = λ i j less below. absurd (omega (arith, less, below));
  low = λ j d above inside. omega arith;
  all = λ j d less. absurd (omega (arith, less));
  only = λ k some below. absurd (omega (arith, some, below));
}

module _ (needs : List (ℕ × Need)) (numbers : List ℕ) (last i : ℕ) (one : ℕ × Need) (sorted : AreByNumber needs) (inside : i < length needs)
    (is : one ≡ get_or needs i one) (before : IsNumbered needs numbers last i) where
  here : (d : ℕ × Need) → one ≡ slice_index_or needs i d
  here d = is ∙ get_or_default needs i one d inside

  later : (j : ℕ) (d : ℕ × Need) → i + 1 ≤ j → j < length needs → one.0 ≤ (slice_index_or needs j d).0
  later j d above below =
      let low = sorted i j d (omega (arith, above)) below in
      omega (arith, low, ap (λ (z : ℕ × Need). z.0) (here d))

  named : Contains (map (λ (z : ℕ × Need). z.0) needs) one.0
  named = in_map (λ (z : ℕ × Need). z.0) needs one (i, inside, sym is)

  pub numbered_push : last < one.0 → IsNumbered needs (numbers ++ one.0 ∷ []) one.0 (i + 1)
  numbered_push more = record {
    some = omega (arith, longer);
    first = kept 0 before.some ∙ before.first;
    end = let e : length (numbers ++ one.0 ∷ []) - 1 ≡ length numbers = omega (arith, longer) in ap (slice_index (numbers ++ one.0 ∷ [])) e ∙ newest;
    rising = rising;
    low = later;
    all = λ j d less within. go j d within (cases_lt j i) less;
    only = λ k some below. only k some (cases_lt k (length numbers)) below;
  }
    where
      longer : length (numbers ++ one.0 ∷ []) ≡ length numbers + 1
      longer = length-append numbers (one.0 ∷ [])

      kept : (k : ℕ) → k < length numbers → slice_index (numbers ++ one.0 ∷ []) k ≡ slice_index numbers k
      kept k below = get_or_append_left numbers (one.0 ∷ []) 0 k below

      newest : slice_index (numbers ++ one.0 ∷ []) (length numbers) ≡ one.0
      newest = get_or_push numbers one.0 0 (length numbers) refl

      upto : (k : ℕ) → k < length numbers → slice_index numbers k ≤ last
      upto k below = split (cases_lt k (length numbers - 1))
        where
          split : (k < length numbers - 1) ⊎ (length numbers - 1 ≤ k) → slice_index numbers k ≤ last
          split (inl less) = omega (arith, before.rising k (length numbers - 1) less (omega (arith, below)), before.end)
          split (inr past) =
              let same : k ≡ length numbers - 1 = omega (arith, past, below) in
              omega (arith, ap (slice_index numbers) same ∙ before.end)

      rising : IsRising (numbers ++ one.0 ∷ [])
      rising a b less below = split (cases_lt b (length numbers))
        where
          split : (b < length numbers) ⊎ (length numbers ≤ b) → slice_index (numbers ++ one.0 ∷ []) a < slice_index (numbers ++ one.0 ∷ []) b
          split (inl old) = omega (arith, kept a (omega (arith, less, old)), kept b old, before.rising a b less old)
          split (inr new) =
              let same : b ≡ length numbers = omega (arith, new, below, longer) in
              omega (arith, kept a (omega (arith, less, same)), upto a (omega (arith, less, same)), more, ap (slice_index (numbers ++ one.0 ∷ [])) same ∙ newest)

      go : (j : ℕ) (d : ℕ × Need) → j < length needs → (j < i) ⊎ (i ≤ j) → j < i + 1 → Contains (numbers ++ one.0 ∷ []) (slice_index_or needs j d).0
      go j d within (inl old) less = Contains-append_left numbers (one.0 ∷ []) (slice_index_or needs j d).0 (before.all j d old within)
      go j d within (inr new) less =
          let same : i ≡ j = omega (arith, new, less) in
          subst (λ (z : ℕ). Contains (numbers ++ one.0 ∷ []) z) (ap (λ (z : ℕ × Need). z.0) (here d ∙ ap (λ (z : ℕ). slice_index_or needs z d) same))
          (Contains-push numbers one.0)

      only : (k : ℕ) → 0 < k → (k < length numbers) ⊎ (length numbers ≤ k) → k < length (numbers ++ one.0 ∷ [])
          → Contains (map (λ (z : ℕ × Need). z.0) needs) (slice_index (numbers ++ one.0 ∷ []) k)
      only k some (inl old) below = subst (λ (z : ℕ). Contains (map (λ (z : ℕ × Need). z.0) needs) z) (sym (kept k old)) (before.only k some old)
      only k some (inr new) below =
          let same : length numbers ≡ k = omega (arith, new, below, longer) in
          subst (λ (z : ℕ). Contains (map (λ (z : ℕ × Need). z.0) needs) z) (sym newest ∙ ap (slice_index (numbers ++ one.0 ∷ [])) same) named

  pub numbered_skip : one.0 ≤ last → IsNumbered needs numbers last (i + 1)
  numbered_skip few = record {
    some = before.some;
    first = before.first;
    end = before.end;
    rising = before.rising;
    low = λ j d above within. before.low j d (omega (arith, above)) within;
    all = λ j d less within. go j d within (cases_lt j i) less;
    only = before.only;
  }
    where
      same_last : one.0 ≡ last
      same_last =
          let low = before.low i one (omega arith) inside in
          omega (arith, low, few, ap (λ (z : ℕ × Need). z.0) is)

      go : (j : ℕ) (d : ℕ × Need) → j < length needs → (j < i) ⊎ (i ≤ j) → j < i + 1 → Contains numbers (slice_index_or needs j d).0
      go j d within (inl old) less = before.all j d old within
      go j d within (inr new) less =
          let same : i ≡ j = omega (arith, new, less) in
          let at : slice_index numbers (length numbers - 1) ≡ (slice_index_or needs j d).0
          = before.end ∙ sym same_last ∙ ap (λ (z : ℕ × Need). z.0) (here d ∙ ap (λ (z : ℕ). slice_index_or needs z d) same) in
          (length numbers - 1, omega (arith, before.some), get_or_default numbers (length numbers - 1) (slice_index_or needs j d).0 0 (omega (arith, before.some)) ∙ at)

pub numbered_all : (needs : List (ℕ × Need)) (numbers : List ℕ) (last i : ℕ) → length needs ≤ i → IsNumbered needs numbers last i
    → (n : ℕ) → Contains (map (λ one. one.0) needs) n → Contains numbers n
numbered_all needs numbers last i all are n there =
    let w = from_map (λ (z : ℕ × Need). z.0) needs n there in
    let at : (slice_index_or needs w.1.0 w.0).0 ≡ n = ap (λ (z : ℕ × Need). z.0) w.1.2 ∙ w.2 in
    subst (λ (z : ℕ). Contains numbers z) at (are.all w.1.0 w.0 (omega (arith, w.1.1, all)) w.1.1)
