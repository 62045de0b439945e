-- Joined marks, marks between two numbers, and marks of some numbers.
use Rattle.std.proofs.Common.{◌≡◌, ◌≢◌, ◌<◌, ◌≤◌, ◌+◌, ◌-◌, ◌==◌, ◌||◌, ◌↔◌, ◌⊎◌, inl, inr, ℕ, Bool, true}
use Rattle.std.proofs.Common.{false, List, length, get_or, take, refl, sym, ◌∙◌, ap, arith, subst}
use Rattle.std.specs.List.{Contains}
use Rattle.std.proofs.lemmas.Bool.{cases_eq, cases_lt, false≢true, or_cases, or_left, or_right, eqb-true, eq-eqb}
use Rattle.tcc_bits.specs.Bits.{is_marked}
use Rattle.tcc_bits.proofs.Lists.{nothing_in, one_of_taken, still_taken, last_taken}

-- ---- joined marks
pub or_marks : (old other new : Bool) → new ≡ (old || other) → (new ≡ true) ↔ ((old ≡ true) ⊎ (other ≡ true))
or_marks old other new is = (λ m. or_cases old other (sym is ∙ m), back)
  where
    back : (old ≡ true) ⊎ (other ≡ true) → new ≡ true
    back (inl o) = is ∙ or_left _ _ o
    back (inr o) = is ∙ or_right _ _ o

-- ---- marks between two numbers
abbrev pub AddsBetween : List ℕ → List ℕ → ℕ → ℕ → Type 0
AddsBetween old new first end = (b : ℕ) → (is_marked new b ≡ true) ↔ ((is_marked old b ≡ true) ⊎ ((first ≤ b) × (b < end)))

pub between_none : (old : List ℕ) (first end : ℕ) → end ≤ first → AddsBetween old old first end
between_none old first end none b = (inl, back)
  where
    back : (is_marked old b ≡ true) ⊎ ((first ≤ b) × (b < end)) → is_marked old b ≡ true
    back (inl m) = m
    back (inr w) = absurd (omega (arith, w.0, w.1))

pub between_more : (old mid new : List ℕ) (first n : ℕ) → first ≤ n → AddsBetween old mid first n
    → ((b : ℕ) → is_marked new b ≡ (is_marked mid b || (b == n))) → AddsBetween old new first (n + 1)
between_more old mid new first n from before now b = (λ m. there (both.0 m), back)
  where
    both : (is_marked new b ≡ true) ↔ ((is_marked mid b ≡ true) ⊎ ((b == n) ≡ true))
    both = or_marks (is_marked mid b) (b == n) (is_marked new b) (now b)

    still : (is_marked old b ≡ true) ⊎ ((first ≤ b) × (b < n)) → (is_marked old b ≡ true) ⊎ ((first ≤ b) × (b < n + 1))
    still (inl m) = inl m
    still (inr w) = inr (w.0, omega (arith, w.1))

    there : (is_marked mid b ≡ true) ⊎ ((b == n) ≡ true) → (is_marked old b ≡ true) ⊎ ((first ≤ b) × (b < n + 1))
    there (inl m) = still ((before b).0 m)
    there (inr e) = let same = eqb-true b n e in inr (omega (arith, same), omega (arith, same))

    by : (first ≤ b) × (b < n + 1) → (b ≡ n) ⊎ (b ≢ n) → is_marked new b ≡ true
    by w (inl same) = both.1 (inr (eq-eqb b n same))
    by w (inr other) = both.1 (inl ((before b).1 (inr (w.0, omega (arith, w.1)))))

    back : (is_marked old b ≡ true) ⊎ ((first ≤ b) × (b < n + 1)) → is_marked new b ≡ true
    back (inl m) = both.1 (inl ((before b).1 (inl m)))
    back (inr w) = by w (cases_eq b n)

-- each number from `known` on is marked
pub between_known : (old new : List ℕ) (first known end : ℕ) → known ≤ end → ((b : ℕ) → known ≤ b → b < end → is_marked old b ≡ true)
    → AddsBetween old new first known → AddsBetween old new first end
between_known old new first known end low marked is b = (λ m. onward ((is b).0 m), back)
  where
    onward : (is_marked old b ≡ true) ⊎ ((first ≤ b) × (b < known)) → (is_marked old b ≡ true) ⊎ ((first ≤ b) × (b < end))
    onward (inl m) = inl m
    onward (inr w) = inr (w.0, omega (arith, w.1))

    by : (first ≤ b) × (b < end) → (b < known) ⊎ (known ≤ b) → is_marked new b ≡ true
    by w (inl before) = (is b).1 (inr (w.0, before))
    by w (inr from) = (is b).1 (inl (marked b from w.1))

    back : (is_marked old b ≡ true) ⊎ ((first ≤ b) × (b < end)) → is_marked new b ≡ true
    back (inl m) = (is b).1 (inl m)
    back (inr w) = by w (cases_lt b known)

-- all of these are marked
pub between_marked : (old : List ℕ) (first end : ℕ) → ((b : ℕ) → first ≤ b → b < end → is_marked old b ≡ true) → AddsBetween old old first end
between_marked old first end marked b = (inl, back)
  where
    back : (is_marked old b ≡ true) ⊎ ((first ≤ b) × (b < end)) → is_marked old b ≡ true
    back (inl m) = m
    back (inr w) = marked b w.0 w.1

-- with no marks before, those between two numbers
pub between_alone : (old new : List ℕ) (first end : ℕ) → ((b : ℕ) → is_marked old b ≡ false) → AddsBetween old new first end → (b : ℕ)
    → (is_marked new b ≡ true) ↔ ((first ≤ b) × (b < end))
between_alone old new first end none is b = (λ m. go ((is b).0 m), λ w. (is b).1 (inr w))
  where
    go : (is_marked old b ≡ true) ⊎ ((first ≤ b) × (b < end)) → (first ≤ b) × (b < end)
    go (inl m) = absurd (false≢true (sym (none b) ∙ m))
    go (inr w) = w

-- the same for marks of these numbers
pub each_alone : (old new numbers : List ℕ) → ((b : ℕ) → is_marked old b ≡ false)
    → ((b : ℕ) → (is_marked new b ≡ true) ↔ ((is_marked old b ≡ true) ⊎ Contains numbers b)) → (b : ℕ) → (is_marked new b ≡ true) ↔ Contains numbers b
each_alone old new numbers none is b = (λ m. go ((is b).0 m), λ w. (is b).1 (inr w))
  where
    go : (is_marked old b ≡ true) ⊎ Contains numbers b → Contains numbers b
    go (inl m) = absurd (false≢true (sym (none b) ∙ m))
    go (inr w) = w

-- ---- numbers that are marked
-- no number yet
pub marks_none : (words numbers : List ℕ) (b : ℕ) → (is_marked words b ≡ true) ↔ ((is_marked words b ≡ true) ⊎ Contains (take 0 numbers) b)
marks_none words numbers b = (inl, back)
  where
    back : (is_marked words b ≡ true) ⊎ Contains (take 0 numbers) b → is_marked words b ≡ true
    back (inl m) = m
    back (inr c) = absurd (nothing_in b c)

-- one more number
pub mark_more : (old mid new numbers : List ℕ) (n : ℕ) → n < length numbers
    → ((b : ℕ) → (is_marked mid b ≡ true) ↔ ((is_marked old b ≡ true) ⊎ Contains (take n numbers) b))
    → ((b : ℕ) → is_marked new b ≡ (is_marked mid b || (b == get_or numbers n 0))) → (b : ℕ)
    → (is_marked new b ≡ true) ↔ ((is_marked old b ≡ true) ⊎ Contains (take (n + 1) numbers) b)
mark_more old mid new numbers n inside before now b = (λ m. onward (is_marked mid b) refl (sym (now b) ∙ m), back)
  where
    onward : (s : Bool) → is_marked mid b ≡ s → (is_marked mid b || (b == get_or numbers n 0)) ≡ true
        → (is_marked old b ≡ true) ⊎ Contains (take (n + 1) numbers) b
    onward true s e = go ((before b).0 s)
      where
        go : (is_marked old b ≡ true) ⊎ Contains (take n numbers) b → (is_marked old b ≡ true) ⊎ Contains (take (n + 1) numbers) b
        go (inl m) = inl m
        go (inr c) = inr (still_taken numbers n inside b c)
    onward false s e =
        let at : (b == get_or numbers n 0) ≡ true = ap (λ x. x || (b == get_or numbers n 0)) (sym s) ∙ e in
        inr (subst (λ (x : ℕ). Contains (take (n + 1) numbers) x) (sym (eqb-true b (get_or numbers n 0) at)) (last_taken numbers n inside))

    or_true : (m : Bool) → (m || true) ≡ true
    or_true true = refl
    or_true false = refl

    old_one : is_marked mid b ≡ true → is_marked new b ≡ true
    old_one m = now b ∙ ap (λ x. x || (b == get_or numbers n 0)) m

    back : (is_marked old b ≡ true) ⊎ Contains (take (n + 1) numbers) b → is_marked new b ≡ true
    back (inl m) = old_one ((before b).1 (inl m))
    back (inr c) = go (one_of_taken numbers n inside b c)
      where
        go : Contains (take n numbers) b ⊎ (get_or numbers n 0 ≡ b) → is_marked new b ≡ true
        go (inl was) = old_one ((before b).1 (inr was))
        go (inr is) = now b ∙ (ap (λ x. is_marked mid b || x) (eq-eqb b (get_or numbers n 0) (sym is)) ∙ or_true (is_marked mid b))
