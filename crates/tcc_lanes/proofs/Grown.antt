-- What holds where it held before, and where it is meant to.
use Rattle.std.proofs.Common.{◌≡◌, ◌≢◌, ◌<◌, ◌+◌, ◌⊎◌, ◌↔◌, inl, inr, ℕ, subst, arith}
use Rattle.std.proofs.lemmas.Bool.{cases_eq}

-- ---- a mark that was added
pub grown_none : {Old Is : Type 0} → (Is → ⊥) → Old ↔ (Old ⊎ Is)
grown_none {Old} {Is} none = ((λ old. inl old), λ w. go w)
  where
    go : Old ⊎ Is → Old
    go (inl old) = old
    go (inr is) = absurd (none is)

pub grown_same : {Old New Is Other : Type 0} → (Is → Other) → (Other → Is) → New ↔ (Old ⊎ Is) → New ↔ (Old ⊎ Other)
grown_same {Old} {New} {Is} {Other} to from w = ((λ new. there (w.0 new)), λ v. w.1 (back v))
  where
    there : Old ⊎ Is → Old ⊎ Other
    there (inl old) = inl old
    there (inr is) = inr (to is)

    back : Old ⊎ Other → Old ⊎ Is
    back (inl old) = inl old
    back (inr is) = inr (from is)

pub grown_more : {Old Mid New Is More All : Type 0} → (Is → All) → (More → All) → (All → Is ⊎ More) → Mid ↔ (Old ⊎ Is) → New ↔ (Mid ⊎ More) → New ↔ (Old ⊎ All)
grown_more {Old} {Mid} {New} {Is} {More} {All} first second either w v = ((λ new. there (v.0 new)), λ is. back is)
  where
    by : Old ⊎ Is → Old ⊎ All
    by (inl old) = inl old
    by (inr is) = inr (first is)

    there : Mid ⊎ More → Old ⊎ All
    there (inl mid) = by (w.0 mid)
    there (inr more) = inr (second more)

    from : Is ⊎ More → New
    from (inl is) = v.1 (inl (w.1 (inr is)))
    from (inr more) = v.1 (inr more)

    back : Old ⊎ All → New
    back (inl old) = v.1 (inl (w.1 (inl old)))
    back (inr all) = from (either all)

-- ---- one of the first n
abbrev pub OneBelow : (ℕ → Type 0) → ℕ → Type 0
OneBelow P n = (k : ℕ) × (k < n) × P k

pub one_earlier : (P : ℕ → Type 0) (n : ℕ) → OneBelow P n → OneBelow P (n + 1)
one_earlier P n (k, less, is) = (k, omega (arith, less), is)

pub one_last : (P : ℕ → Type 0) (n : ℕ) → P n → OneBelow P (n + 1)
one_last P n is = (n, omega arith, is)

pub one_or_last : (P : ℕ → Type 0) (n : ℕ) → OneBelow P (n + 1) → OneBelow P n ⊎ P n
one_or_last P n (k, less, is) = go (cases_eq k n)
  where
    go : (k ≡ n) ⊎ (k ≢ n) → OneBelow P n ⊎ P n
    go (inl same) = inr (subst P same is)
    go (inr other) = inl (k, omega (arith, less, other), is)
