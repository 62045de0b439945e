-- The beginnings and ends of sessions.
use Rattle.std.proofs.Common.{ℕ, ◌+◌, ◌<◌, ◌≤◌, ◌≡◌, ◌⊎◌, inl, inr, sym, ap, subst, ◌∙◌, arith}
use Rattle.std.specs.Prelude.{◌↔◌}
use Rattle.std.proofs.lemmas.Bool.{cases_lt}
use Rattle.tcc_reads.specs.History.{History, IsBySession, count, owner, place}
use Rattle.tcc_graph.specs.Relations.{IsSessionPair}
use Rattle.tcc_graph.proofs.Pairs.{PairParts, pair_parts, lower_first}
use Rattle.tcc_least.specs.private.Returns.{IsCut, IsSession}
use Rattle.tcc_least.proofs.Sessions.{not_itself}

module _ (h : History) (ordered : IsBySession h.entries) where
  -- a session pair of committed transactions leads upward
  upward : (u v : ℕ) → 0 < u → IsSessionPair h u v → u < v
  upward u v some p = go (cases_lt u v) (cases_lt v u)
    where
      parts : PairParts h u v
      parts = pair_parts h u v p

      go : (u < v) ⊎ (v ≤ u) → (v < u) ⊎ (u ≤ v) → u < v
      go (inl up) q = up
      go (inr down) (inl less) =
          let l : place h u < place h v = parts.lower some in
          let m : place h v < place h u = (ordered v u less parts.from).1 (sym (parts.same some)) in
          absurd (omega arith)
      go (inr down) (inr up) = let same : v ≡ u = omega arith in absurd (not_itself h u (subst (λ (z : ℕ). IsSessionPair h u z) same p))

  of_owner : (u v : ℕ) → 0 < u → u < v → v < count h → owner h u ≡ owner h v → IsSessionPair h u v
  of_owner u v some less below same = lower_first h u v some (omega arith) (omega arith) below same ((ordered u v less below).1 same)

  module _ (n next end : ℕ) (some : 0 < n) (cut : IsCut h n) (below : n < count h) (follows : next ≡ n + 1) (past : next ≤ end) (few : end ≤ count h)
      (later : (v : ℕ) → IsSessionPair h n v ↔ ((next ≤ v) × (v < end))) where
    same_owner : (u : ℕ) → n ≤ u → u < end → owner h n ≡ owner h u
    same_owner u from within = go (cases_lt n u)
      where
        go : (n < u) ⊎ (u ≤ n) → owner h n ≡ owner h u
        go (inl less) = let p : PairParts h n u = pair_parts h n u ((later u).1 (omega arith, within)) in p.same some
        go (inr more) = let same : n ≡ u = omega arith in ap (λ (z : ℕ). owner h z) same

    new_cut : IsCut h end
    new_cut u v up within from to same = go (cases_lt u n)
      where
        go : (u < n) ⊎ (n ≤ u) → ⊥
        go (inl less) = cut u v up less (omega arith) to same
        go (inr more) =
            let l = (later v).0 (of_owner n v some (omega arith) to (same_owner u more within ∙ same)) in
            omega (arith, l.1)

    new_session : IsSession h n end
    new_session = record {
      some = some;
      after = λ u v from within. (
        (λ p. (upward u v (omega arith) p, inside u v from within p (cases_lt v end))),
        (λ w. of_owner u v (omega arith) w.0 (omega (arith, w.1)) (sym (same_owner u from within) ∙ same_owner v (omega (arith, w.0)) w.1)),
      );
      before = λ u v up from within. (
        (λ p. (low u v up from p (cases_lt u n), upward u v up p)),
        (λ w. of_owner u v up w.1 (omega arith) (sym (same_owner u w.0 (omega (arith, w.1))) ∙ same_owner v from within)),
      );
    }
      where
        inside : (u v : ℕ) → n ≤ u → u < end → IsSessionPair h u v → (v < end) ⊎ (end ≤ v) → v < end
        inside u v from within p (inl less) = less
        inside u v from within p (inr more) =
            let parts : PairParts h u v = pair_parts h u v p in absurd (new_cut u v (omega arith) within more parts.to (parts.same (omega arith)))

        low : (u v : ℕ) → 0 < u → n ≤ v → IsSessionPair h u v → (u < n) ⊎ (n ≤ u) → n ≤ u
        low u v up from p (inr more) = more
        low u v up from p (inl less) = let parts : PairParts h u v = pair_parts h u v p in absurd (cut u v up less from parts.to (parts.same up))

    pub new_range : IsCut h end × IsSession h n end
    new_range = (new_cut, new_session)
