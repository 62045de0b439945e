-- Clocks: the last place of each session from which a transaction is reached.
use Rattle.std.proofs.Common.{ℕ, zero, suc, ◌≡◌, ◌<◌, ◌≤◌, ◌+◌, ◌-◌, ◌==◌, Bool, true, false, cond, ◌&&◌, ◌⊎◌, inl, inr, List, [], ◌∷◌, length, refl, sym, subst, arith}
use Rattle.std.specs.Prelude.{max, nat_lt}
use Rattle.std.specs.List.{Contains, list_any}
use Rattle.std.proofs.lemmas.Bool.{cases_lt, and_parts, and_from, eqb-true, eq-eqb, ltb-true, lt-ltb}
use Rattle.std.proofs.Math.Nat.{le-max_left, le-max_right}
use Rattle.tcc_reads.specs.History.{History, count, owner, place}
use Rattle.tcc_graph.specs.Clocks.{IsBehind, IsLast}
use Rattle.tcc_graph.specs.Keys.{numbers}
use Rattle.tcc_graph.specs.Levels.{IsAllowedWalk, causally}
use Rattle.tcc_graph.specs.Walks.{IsReached, IsWalk}
use Rattle.tcc_graph.specs.declared.step.Step.{Step}
use Rattle.tcc_near.proofs.ShortWalks.{few_steps}
use Rattle.tcc_explain.specs.Tabled.{greatest, has_walk, is_behind, least_below, steps_lead}
use Rattle.tcc_explain.proofs.TabledWalks.{IsCapped, any_found, any_of, led_by, number_below, number_in, shortest_is, steps_of}

-- ---- the greatest

great : (test : ℕ → Bool) (size : ℕ → ℕ) (ns : List ℕ) (n : ℕ) → Contains ns n → test n ≡ true → size n ≤ greatest test size ns
great test size [] n (i, low, at) e = absurd (omega (arith, low))
great test size (m ∷ ns) n (zero, low, at) e =
    let here : cond (test m) (size m) 0 ≡ size n = subst (λ z. cond (test m) (size m) 0 ≡ size z) at (rw (subst (λ z. test z ≡ true) (sym at) e) refl) in
    omega (arith, here, le-max_left (cond (test m) (size m) 0) (greatest test size ns))
great test size (m ∷ ns) n (suc i, low, at) e =
    omega (arith, great test size ns n (i, omega (arith, low), at) e, le-max_right (cond (test m) (size m) 0) (greatest test size ns))

-- some number that passes has it, if it isn't 0
abbrev IsHad : (ℕ → Bool) → (ℕ → ℕ) → List ℕ → ℕ → Type 0
IsHad test size ns most = (most ≡ 0) ⊎ ((n : ℕ) × Contains ns n × (test n ≡ true) × (size n ≡ most))

had : (test : ℕ → Bool) (size : ℕ → ℕ) (ns : List ℕ) → IsHad test size ns (greatest test size ns)
had test size [] = inl refl
had test size (m ∷ ns) = go (test m) refl (greatest test size ns) (had test size ns)
  where
    later : (most : ℕ) → IsHad test size ns most → IsHad test size (m ∷ ns) most
    later most (inl none) = inl none
    later most (inr (n, (i, low, at), e, is)) = inr (n, (suc i, omega (arith, low), at), e, is)

    either : (most : ℕ) → test m ≡ true → IsHad test size ns most → (most < size m) ⊎ (size m ≤ most) → IsHad test size (m ∷ ns) (max (size m) most)
    either most e rest (inr less) = subst (λ (z : ℕ). IsHad test size (m ∷ ns) z) (omega (arith, less)) (later most rest)
    either most e rest (inl more) = inr (m, (0, omega arith, refl), e, omega (arith, more))

    go : (b : Bool) → test m ≡ b → (most : ℕ) → IsHad test size ns most → IsHad test size (m ∷ ns) (max (cond b (size m) 0) most)
    go true e most rest = either most e rest (cases_lt most (size m))
    go false e most rest = subst (λ (z : ℕ). IsHad test size (m ∷ ns) z) (omega arith) (later most rest)

-- ---- the transactions from which one is reached

module _ (h : History) (t session : ℕ) where
  behind_by : (b : ℕ) → Contains (numbers h) b → is_behind h t session b ≡ true → IsBehind h t session b
  behind_by b within e =
      let (first, leads) = and_parts (nat_lt 0 b && (owner h b == session)) (list_any (λ n. steps_lead h (suc n) b t) (numbers h)) e in
      let (some, owned) = and_parts (nat_lt 0 b) (owner h b == session) first in
      let (n, low, lead) = any_found (λ n. steps_lead h (suc n) b t) (numbers h) leads in
      let (walk, is, long) = led_by h (suc n) b t lead in
      record {
        committed = ltb-true 0 b some;
        below = number_below h b within;
        owned = eqb-true (owner h b) session owned;
        reached = (walk, (omega (arith, long), is));
      }

  short : (b : ℕ) → IsReached h b t → (n : ℕ) × (n < count h) × (steps_lead h (suc n) b t ≡ true)
  short b (walk, leads) = go (least_below (λ n. has_walk (causally h) n b t) (length walk + 1)) (shortest_is (causally h) (length walk + 1) b t)
    where
      of : (least : List Step) → IsWalk h b t least → length least ≤ count h → (n : ℕ) × (n < count h) × (steps_lead h (suc n) b t ≡ true)
      of [] is few = absurd (omega (arith, is.0))
      of (s ∷ steps) is few = (length steps, omega (arith, few), steps_of h b t (s ∷ steps) is.1)

      go : (n : ℕ) → IsCapped (IsAllowedWalk (causally h) b t) length (length walk + 1) n → (n : ℕ) × (n < count h) × (steps_lead h (suc n) b t ≡ true)
      go n (inl (low, (least, is, at), none)) =
          of least is.0 (few_steps h b t least is.0 (λ others lead. omega (arith, at, none others (lead, tt))))
      go n (inr (all, none)) = absurd (omega (arith, none walk (leads, tt)))

  behind_of : (b : ℕ) → IsBehind h t session b → is_behind h t session b ≡ true
  behind_of b is =
      let (n, low, lead) = short b is.reached in
      and_from _ _ (and_from _ _ (lt-ltb 0 b is.committed) (eq-eqb (owner h b) session is.owned))
      (any_of (λ n. steps_lead h (suc n) b t) (numbers h) n (number_in h n low) lead)

  pub last_is : IsLast h t session (greatest (is_behind h t session) (place h) (numbers h))
  last_is = record {
    attained = of (greatest (is_behind h t session) (place h) (numbers h)) (had (is_behind h t session) (place h) (numbers h));
    greatest = λ b is. great (is_behind h t session) (place h) (numbers h) b (number_in h b is.below) (behind_of b is);
  }
    where
      of : (most : ℕ) → IsHad (is_behind h t session) (place h) (numbers h) most → (most ≡ 0) ⊎ ((b : ℕ) × IsBehind h t session b × (place h b ≡ most))
      of most (inl none) = inl none
      of most (inr (b, within, e, at)) = inr (b, behind_by b within e, at)
