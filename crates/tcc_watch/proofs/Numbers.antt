-- The numbers of names, and what a table keeps by number, when one name more may come.
use Rattle.std.proofs.Common.{ℕ, zero, suc, ◌+◌, ◌≡◌, ◌<◌, ◌≤◌, ◌||◌, ◌⊎◌, inl, inr, Bool, true, false, cond, List, [], ◌∷◌, ◌++◌, length, get_or, refl, sym, ap, subst, ◌∙◌, arith, length-append}
use Rattle.std.proofs.Math.ListN.{get_or-append}
use Rattle.std.proofs.lemmas.Bool.{cases_lt, false≢true}
use Rattle.std.proofs.lemmas.List.{get_or_push}
use Rattle.tcc_txn.specs.Symbols.{IsNumber, is_symbol, with_symbol}
use Rattle.tcc_txn.proofs.SortedParts.{same_name, same_names}
use Rattle.tcc_txn.proofs.NumberedNames.{among}
use Rattle.tcc_graph.proofs.NameLemmas.{bytes_eq-same}
use Rattle.tcc_watch.specs.private.Numbered.{AreApart, number_in}

-- ---- one name

pub absent : (x : List ℕ) (names : List (List ℕ)) → is_symbol x names ≡ false → number_in x names ≡ length names
absent x [] none = refl
absent x (name ∷ names) none = go (same_name x name) (absent x names) none
  where
    go : (b : Bool) → (is_symbol x names ≡ false → number_in x names ≡ length names) → (b || is_symbol x names) ≡ false
        → cond b 0 (suc (number_in x names)) ≡ suc (length names)
    go true more e = absurd (false≢true (sym e))
    go false more e = ap suc (more e)

abbrev IsAt : List ℕ → List (List ℕ) → Type 0
IsAt x names = (number_in x names < length names) × (get_or names (number_in x names) [] ≡ x)

found : (x : List ℕ) (names : List (List ℕ)) (n : ℕ) → IsNumber names x n → IsAt x names
found x [] n is = let within = is.within in absurd (omega (arith, within))
found x (name ∷ names) n is = go (same_name x name) refl (found x names)
  where
    later : (n : ℕ) → IsNumber (name ∷ names) x n → same_name x name ≡ false → ((m : ℕ) → IsNumber names x m → IsAt x names) → IsAt x names
    later zero first differ more = absurd (false≢true (sym differ ∙ bytes_eq-same x name (sym first.named)))
    later (suc m) next differ more = more m (record { within = omega (arith, next.within); named = next.named })

    go : (b : Bool) → same_name x name ≡ b → ((m : ℕ) → IsNumber names x m → IsAt x names)
        → (cond b 0 (suc (number_in x names)) < suc (length names)) × (get_or (name ∷ names) (cond b 0 (suc (number_in x names))) [] ≡ x)
    go true e more = (omega arith, sym (same_names x name e))
    go false e more = let w = later n is e more in (omega (arith, w.0), w.1)

-- a number of a name that is there once
pub present : (x : List ℕ) (names : List (List ℕ)) (n : ℕ) → AreApart names → IsNumber names x n → number_in x names ≡ n
present x names n apart is = let w = found x names n is in apart (number_in x names) n w.0 is.within (w.1 ∙ sym is.named)

named : (x : List ℕ) (names : List (List ℕ)) → number_in x names < length names → get_or names (number_in x names) [] ≡ x
named x [] low = absurd (omega (arith, low))
named x (name ∷ names) low = go (same_name x name) refl (named x names) low
  where
    go : (b : Bool) → same_name x name ≡ b → (number_in x names < length names → get_or names (number_in x names) [] ≡ x)
        → cond b 0 (suc (number_in x names)) < suc (length names) → get_or (name ∷ names) (cond b 0 (suc (number_in x names))) [] ≡ x
    go true e more less = sym (same_names x name e)
    go false e more less = more (omega (arith, less))

-- ---- one name more

-- its number is how many there were
at_push : (x : List ℕ) (names : List (List ℕ)) → number_in x (names ++ x ∷ []) ≡ number_in x names
at_push x [] = ap (λ b. cond b 0 1) (bytes_eq-same x x refl)
at_push x (name ∷ names) = ap (λ k. cond (same_name x name) 0 (suc k)) (at_push x names)

pub number_stays : (x : List ℕ) (names : List (List ℕ)) → number_in x (with_symbol x names) ≡ number_in x names
number_stays x names = go (is_symbol x names)
  where
    go : (b : Bool) → number_in x (cond b names (names ++ x ∷ [])) ≡ number_in x names
    go true = refl
    go false = at_push x names

-- another that is there keeps its number
push_keeps : (y : List ℕ) (names more : List (List ℕ)) → number_in y names < length names → number_in y (names ++ more) ≡ number_in y names
push_keeps y [] more low = absurd (omega (arith, low))
push_keeps y (name ∷ names) more low = go (same_name y name) (push_keeps y names more) low
  where
    go : (b : Bool) → (number_in y names < length names → number_in y (names ++ more) ≡ number_in y names)
        → cond b 0 (suc (number_in y names)) < suc (length names) → cond b 0 (suc (number_in y (names ++ more))) ≡ cond b 0 (suc (number_in y names))
    go true later less = refl
    go false later less = ap suc (later (omega (arith, less)))

-- and one that isn't there isn't there now
push_misses : (x y : List ℕ) (names : List (List ℕ)) → same_name y x ≡ false → length names ≤ number_in y names → number_in y (names ++ x ∷ []) ≡ suc (length names)
push_misses x y [] differ high = ap (λ b. cond b 0 1) differ
push_misses x y (name ∷ names) differ high = go (same_name y name) (push_misses x y names differ) high
  where
    go : (b : Bool) → (length names ≤ number_in y names → number_in y (names ++ x ∷ []) ≡ suc (length names))
        → suc (length names) ≤ cond b 0 (suc (number_in y names)) → cond b 0 (suc (number_in y (names ++ x ∷ []))) ≡ suc (suc (length names))
    go true later past = absurd (omega (arith, past))
    go false later past = ap suc (later (omega (arith, past)))

apart_pushed : (x : List ℕ) (names : List (List ℕ)) → AreApart names → is_symbol x names ≡ false → AreApart (names ++ x ∷ [])
apart_pushed x names apart none i k at_i at_k same = by (cases_lt i (length names)) (cases_lt k (length names))
  where
    long : length (names ++ x ∷ []) ≡ length names + 1
    long = length-append names (x ∷ [])

    new : (j : ℕ) → j < length names → get_or names j [] ≡ x → ⊥
    new j low is = false≢true (sym none ∙ among names x j (record { within = low; named = is }))

    old : (j : ℕ) → j < length names → get_or (names ++ x ∷ []) j [] ≡ get_or names j []
    old j low = get_or-append names (x ∷ []) [] j low

    last : (j : ℕ) → length names ≤ j → j < length (names ++ x ∷ []) → get_or (names ++ x ∷ []) j [] ≡ x
    last j high within = get_or_push names x [] j (omega (arith, high, within, long))

    by : (i < length names) ⊎ (length names ≤ i) → (k < length names) ⊎ (length names ≤ k) → i ≡ k
    by (inl low_i) (inl low_k) = apart i k low_i low_k (sym (old i low_i) ∙ same ∙ old k low_k)
    by (inl low_i) (inr high_k) = absurd (new i low_i (sym (old i low_i) ∙ same ∙ last k high_k at_k))
    by (inr high_i) (inl low_k) = absurd (new k low_k (sym (old k low_k) ∙ sym same ∙ last i high_i at_i))
    by (inr high_i) (inr high_k) = omega (arith, high_i, at_i, high_k, at_k, long)

pub apart_more : (x : List ℕ) (names : List (List ℕ)) → AreApart names → AreApart (with_symbol x names)
apart_more x names apart = go (is_symbol x names) refl
  where
    go : (b : Bool) → is_symbol x names ≡ b → AreApart (cond b names (names ++ x ∷ []))
    go true e = apart
    go false none = apart_pushed x names apart none

-- ---- what is kept by number

module _ (x : List ℕ) (names : List (List ℕ)) (n : ℕ) (apart : AreApart names) (number : IsNumber (with_symbol x names) x n) where
  pub number_now : number_in x (with_symbol x names) ≡ n
  number_now = present x (with_symbol x names) n (apart_more x names apart) number

  pub number_before : number_in x names ≡ n
  number_before = sym (number_stays x names) ∙ number_now

  -- where it changes at the number of the name alone, other names keep it
  module _ {A : Type 0} (old new : ℕ → A) (none : A) (past : (k : ℕ) → length names ≤ k → old k ≡ none) (others : (k : ℕ) → (k ≡ n → ⊥) → new k ≡ old k) where
    pub others_stay : (y : List ℕ) → (y ≡ x → ⊥) → new (number_in y (with_symbol x names)) ≡ old (number_in y names)
    others_stay y differ = go (is_symbol x names) refl number (cases_lt (number_in y names) (length names))
      where
        unlike : (b : Bool) → same_name y x ≡ b → same_name y x ≡ false
        unlike true e = absurd (differ (same_names y x e))
        unlike false e = e

        go : (b : Bool) → is_symbol x names ≡ b → IsNumber (cond b names (names ++ x ∷ [])) x n → (number_in y names < length names) ⊎ (length names ≤ number_in y names)
            → new (number_in y (cond b names (names ++ x ∷ []))) ≡ old (number_in y names)
        go true there is (inl low) =
            others (number_in y names)
            (λ same. differ (sym (named y names low) ∙ ap (λ k. get_or names k []) same ∙ is.named))
        go true there is (inr high) = others (number_in y names) (λ same. let within = is.within in absurd (omega (arith, same, high, within)))
        go false gone is (inl low) =
            let n_is : number_in x names ≡ length names = absent x names gone in
            ap new (push_keeps y names (x ∷ []) low)
            ∙ others (number_in y names) (λ same. absurd (omega (arith, same, low, n_is, number_before)))
        go false gone is (inr high) =
            let n_is : number_in x names ≡ length names = absent x names gone in
            ap new (push_misses x y names (unlike (same_name y x) refl) high)
            ∙ others (suc (length names)) (λ same. absurd (omega (arith, same, n_is, number_before)))
            ∙ past (suc (length names)) (omega arith)
            ∙ sym (past (number_in y names) high)

    pub past_more : (k : ℕ) → length (with_symbol x names) ≤ k → new k ≡ none
    past_more k high =
        let within = number.within in
        others k (λ same. absurd (omega (arith, same, high, within))) ∙ past k (omega (arith, high, longer (is_symbol x names)))
      where
        longer : (b : Bool) → length names ≤ length (cond b names (names ++ x ∷ []))
        longer true = omega arith
        longer false = omega (arith, length-append names (x ∷ []))
