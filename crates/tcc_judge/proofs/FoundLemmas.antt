-- The first of some pairs, as more of them are looked at.
use Rattle.std.proofs.Common.{◌≡◌, ◌≢◌, ◌<◌, ◌≤◌, ◌==◌, ◌&&◌, ◌⊎◌, inl, inr, ℕ, true, false, nat_lt, Option, None, Some, sym, ◌∙◌, arith}
use Rattle.std.proofs.lemmas.Bool.{cases_Bool, cases_eq, cases_lt, cases_order, eq-eqb, ne_eqb, eqb-true, or_cases, or_left, or_right, and_parts, and_from, ltb-true, lt-ltb, false≢true}
use Rattle.tcc_cert.specs.Tables.{IsFirstAt, IsEarlier}
use Rattle.tcc_judge.specs.declared.least.TheConstants.{NONE}
use Rattle.tcc_judge.specs.private.Least.{IsLeastOf, IsFoundFirst}
use Rattle.tcc_judge.specs.private.Behind.{is_earlier, earlier_of, first_with}

earlier_is : (p q : ℕ × ℕ) → is_earlier p q ≡ true → IsEarlier p q
earlier_is p q h = go (or_cases (nat_lt p.0 q.0) ((p.0 == q.0) && nat_lt p.1 q.1) h)
  where
    go : (nat_lt p.0 q.0 ≡ true) ⊎ (((p.0 == q.0) && nat_lt p.1 q.1) ≡ true) → IsEarlier p q
    go (inl less) = inl (ltb-true p.0 q.0 less)
    go (inr both) = let w = and_parts (p.0 == q.0) (nat_lt p.1 q.1) both in inr (eqb-true p.0 q.0 w.0, ltb-true p.1 q.1 w.1)

is_it_earlier : (p q : ℕ × ℕ) → IsEarlier p q → is_earlier p q ≡ true
is_it_earlier p q (inl less) = or_left (nat_lt p.0 q.0) ((p.0 == q.0) && nat_lt p.1 q.1) (lt-ltb p.0 q.0 less)
is_it_earlier p q (inr (same, less)) =
    or_right (nat_lt p.0 q.0) ((p.0 == q.0) && nat_lt p.1 q.1) (and_from (p.0 == q.0) (nat_lt p.1 q.1) (eq-eqb p.0 q.0 same) (lt-ltb p.1 q.1 less))

-- what is earlier than a pair is earlier than one that isn't earlier than that pair
earlier_still : (p q r : ℕ × ℕ) → IsEarlier p q → is_earlier r q ≡ false → IsEarlier p r
earlier_still p q r less apart = go less (cases_order p.0 r.0)
  where
    later : IsEarlier r q → ⊥
    later e = false≢true (sym apart ∙ is_it_earlier r q e)

    same : IsEarlier p q → p.0 ≡ r.0 → (p.1 < r.1) ⊎ (r.1 ≤ p.1) → IsEarlier p r
    same less e (inl l) = inr (e, l)
    same (inl m) e (inr l) = absurd (later (inl (omega (arith, m, e))))
    same (inr m) e (inr l) = absurd (later (inr (omega (arith, m.0, e), omega (arith, m.1, l))))

    go : IsEarlier p q → (p.0 ≡ r.0) ⊎ ((p.0 < r.0) ⊎ (r.0 < p.0)) → IsEarlier p r
    go less (inl e) = same less e (cases_lt p.1 r.1)
    go less (inr (inl l)) = inl l
    go (inl m) (inr (inr l)) = absurd (later (inl (omega (arith, m, l))))
    go (inr m) (inr (inr l)) = absurd (later (inl (omega (arith, m.0, l))))

module _ (Old New : ℕ × ℕ → Type 0) (Is : ℕ → Type 0) (a b : ℕ) (there : (at : ℕ × ℕ) → Old at → New at) (new : (n : ℕ) → Is n → New (n, a))
    (back : (at : ℕ × ℕ) → New at → Old at ⊎ ((at.1 ≡ a) × Is at.0)) (low : (n : ℕ) → Is n → n < NONE) (least : IsLeastOf Is b) where
  -- no other transaction
  same_found : b ≡ NONE → (found : Option (ℕ × ℕ)) → IsFoundFirst Old found → IsFoundFirst New found
  same_found none None w = λ at is. go (back at is)
    where
      go : {at : ℕ × ℕ} → Old at ⊎ ((at.1 ≡ a) × Is at.0) → ⊥
      go {at} (inl old) = w at old
      go {at} (inr one) = omega (arith, least.lowest at.0 one.1, low at.0 one.1, none)
  same_found none (Some found) w = record { here = there found w.here; first = λ earlier less is. go earlier less (back earlier is) }
    where
      go : (earlier : ℕ × ℕ) → IsEarlier earlier found → Old earlier ⊎ ((earlier.1 ≡ a) × Is earlier.0) → ⊥
      go earlier less (inl old) = w.first earlier less old
      go earlier less (inr one) = omega (arith, least.lowest earlier.0 one.1, low earlier.0 one.1, none)

  is_there : b ≢ NONE → Is b
  is_there some = go least.attained
    where
      go : (b ≡ NONE) ⊎ Is b → Is b
      go (inl none) = absurd (some none)
      go (inr is) = is

  -- no other pair of a is earlier
  none_earlier : (earlier : ℕ × ℕ) → IsEarlier earlier (b, a) → earlier.1 ≡ a → Is earlier.0 → ⊥
  none_earlier earlier (inl less) same is = omega (arith, less, least.lowest earlier.0 is)
  none_earlier earlier (inr both) same is = omega (arith, both.1, same)

  new_found : b ≢ NONE → (found : Option (ℕ × ℕ)) → IsFoundFirst Old found → IsFirstAt New (earlier_of found (b, a))
  new_found some None w = record { here = new b (is_there some); first = λ earlier less is. go earlier less (back earlier is) }
    where
      go : (earlier : ℕ × ℕ) → IsEarlier earlier (b, a) → Old earlier ⊎ ((earlier.1 ≡ a) × Is earlier.0) → ⊥
      go earlier less (inl old) = w earlier old
      go earlier less (inr one) = none_earlier earlier less one.0 one.1
  new_found some (Some found) w = by (cases_Bool (is_earlier found (b, a)))
    where
      kept : IsEarlier found (b, a) → (earlier : ℕ × ℕ) → IsEarlier earlier found → Old earlier ⊎ ((earlier.1 ≡ a) × Is earlier.0) → ⊥
      kept before earlier less (inl old) = w.first earlier less old
      kept before earlier less (inr one) = clash before less
        where
          clash : IsEarlier found (b, a) → IsEarlier earlier found → ⊥
          clash (inl p) (inl q) = omega (arith, p, q, least.lowest earlier.0 one.1)
          clash (inl p) (inr q) = omega (arith, p, q.0, least.lowest earlier.0 one.1)
          clash (inr p) (inl q) = omega (arith, p.0, q, least.lowest earlier.0 one.1)
          clash (inr p) (inr q) = omega (arith, p.1, q.1, one.0)

      moved : is_earlier found (b, a) ≡ false → (earlier : ℕ × ℕ) → IsEarlier earlier (b, a) → Old earlier ⊎ ((earlier.1 ≡ a) × Is earlier.0) → ⊥
      moved later earlier less (inl old) = w.first earlier (earlier_still earlier (b, a) found less later) old
      moved later earlier less (inr one) = none_earlier earlier less one.0 one.1

      by : (is_earlier found (b, a) ≡ true) ⊎ (is_earlier found (b, a) ≡ false) → IsFirstAt New (earlier_of (Some found) (b, a))
      by (inl t) = rw t record { here = there found w.here; first = λ earlier less is. kept (earlier_is found (b, a) t) earlier less (back earlier is) }
      by (inr f) = rw f record { here = new b (is_there some); first = λ earlier less is. moved f earlier less (back earlier is) }

  pub first_more : (found : Option (ℕ × ℕ)) → IsFoundFirst Old found → IsFoundFirst New (first_with found b a)
  first_more found w = go (cases_eq b NONE)
    where
      go : (b ≡ NONE) ⊎ (b ≢ NONE) → IsFoundFirst New (first_with found b a)
      go (inl none) = rw (eq-eqb b NONE none) (same_found none found w)
      go (inr some) = rw (ne_eqb b NONE some) (new_found some found w)

-- the same for pairs that are described in another way
pub found_same : (One Other : ℕ × ℕ → Type 0) → ((at : ℕ × ℕ) → One at → Other at) → ((at : ℕ × ℕ) → Other at → One at) → (found : Option (ℕ × ℕ))
    → IsFoundFirst One found → IsFoundFirst Other found
found_same One Other there back None w = λ at is. w at (back at is)
found_same One Other there back (Some found) w = record { here = there found w.here; first = λ earlier less is. w.first earlier less (back earlier is) }
