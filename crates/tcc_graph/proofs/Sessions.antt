-- Session order: which transactions are between two of a session, and which is right before one.
use Rattle.std.proofs.Common.{ℕ, ◌-◌, ◌<◌, ◌≤◌, ◌≡◌, ◌⊎◌, true, false, inl, inr, sym, ap, subst, arith}
use Rattle.std.proofs.lemmas.Bool.{cases_lt, cases_eq, both_ways}
use Rattle.tcc_reads.specs.History.{History, IsBySession, count, owner, place}
use Rattle.tcc_graph.specs.Relations.{IsSessionPair, session_pair}
use Rattle.tcc_graph.proofs.Pairs.{PairParts, pair_parts, lower_first, initial_pair}

module _ (h : History) (ordered : IsBySession h.entries) where
  -- a transaction other than `init` that is before another has the lower number
  lower : (b c : ℕ) → 0 < b → IsSessionPair h b c → b < c
  lower b c some p = go (cases_lt b c)
    where
      parts : PairParts h b c
      parts = pair_parts h b c p

      less : place h b < place h c
      less = parts.lower some

      back : (c < b) ⊎ (b ≤ c) → c ≤ b → b < c
      back (inl under) more = let turned : place h c < place h b =
          (ordered c b under parts.from).1 (sym (parts.same some)) in absurd (omega (arith, less, turned))
      back (inr over) more = let same : b ≡ c = omega (arith, over, more) in let itself : place h b ≡ place h c =
          ap (λ n. place h n) same in absurd (omega (arith, less, itself))

      go : (b < c) ⊎ (c ≤ b) → b < c
      go (inl less) = less
      go (inr more) = back (cases_lt c b) more

  -- all between the two are of their session
  module _ (b c : ℕ) (some : 0 < b) (p : IsSessionPair h b c) (m : ℕ) (over : b < m) (under : m < c) where
    parts : PairParts h b c
    parts = pair_parts h b c p

    same_owner : (owner h b ≡ owner h m) × (owner h m ≡ owner h c)
    same_owner =
        let one = (ordered b m over (omega (arith, under, parts.to))).0 in
        let two = (ordered m c under parts.to).0 in
        let same = parts.same some in
        (omega (arith, one, two, same), omega (arith, one, two, same))

    pub upto : IsSessionPair h b m
    upto = let below : m < count h =
        omega (arith, under, parts.to) in lower_first h b m some parts.from (omega (arith, over)) below same_owner.0 ((ordered b m over below).1 same_owner.0)

    pub onward : IsSessionPair h m c
    onward =
        lower_first h m c (omega (arith, over)) (omega (arith, under, parts.to)) (omega (arith, under)) parts.to same_owner.1
        ((ordered m c under parts.to).1 same_owner.1)

  -- the number right before, if that is before it in session order, else `init`
  pub last_before : (b c : ℕ) → 0 < c → session_pair h (c - 1) c ≡ true → IsSessionPair h b c → (b ≡ c - 1) ⊎ IsSessionPair h b (c - 1)
  last_before b c some there p = go (cases_eq b (c - 1)) (cases_lt 0 b)
    where
      parts : PairParts h b c
      parts = pair_parts h b c p

      go : (b ≡ c - 1) ⊎ (b ≡ c - 1 → ⊥) → (0 < b) ⊎ (b ≤ 0) → (b ≡ c - 1) ⊎ IsSessionPair h b (c - 1)
      go (inl same) s = inl same
      go (inr apart) (inl more) = let less = lower b c more p in inr (upto b c more p (c - 1) (omega (arith, less, apart)) (omega (arith, some)))
      go (inr apart) (inr none) = let zeroth : b ≡ 0 =
          omega (arith, none) in inr (initial_pair h b (c - 1) zeroth parts.from (omega (arith, apart, zeroth)) (omega (arith, parts.to)))

  pub first_of_session : (b c : ℕ) → 0 < c → session_pair h (c - 1) c ≡ false → IsSessionPair h b c → (b ≡ 0) ⊎ IsSessionPair h b 0
  first_of_session b c some none p = go (cases_eq b (c - 1)) (cases_lt 0 b)
    where
      go : (b ≡ c - 1) ⊎ (b ≡ c - 1 → ⊥) → (0 < b) ⊎ (b ≤ 0) → (b ≡ 0) ⊎ IsSessionPair h b 0
      go s (inr zeroth) = inl (omega (arith, zeroth))
      go (inl same) (inl more) = absurd (both_ways (session_pair h (c - 1) c) none (subst (λ (m : ℕ). IsSessionPair h m c) same p))
      go (inr apart) (inl more) = let less =
          lower b c more p in absurd (both_ways (session_pair h (c - 1) c) none (onward b c more p (c - 1) (omega (arith, less, apart)) (omega (arith, some))))
