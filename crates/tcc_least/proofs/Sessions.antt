-- Session order: it leads on, and never back.
use Rattle.std.proofs.Common.{ℕ, ◌<◌, ◌≤◌, ◌⊎◌, inl, inr, ◌∙◌, arith}
use Rattle.std.proofs.lemmas.Bool.{cases_lt}
use Rattle.tcc_reads.specs.History.{History, place}
use Rattle.tcc_graph.specs.Relations.{IsSessionPair}
use Rattle.tcc_graph.proofs.Pairs.{PairParts, pair_parts, lower_first, initial_pair}

module _ (h : History) where
  pub session_on : (a b c : ℕ) → IsSessionPair h a b → IsSessionPair h b c → IsSessionPair h a c
  session_on a b c p q = go (cases_lt 0 a)
    where
      one : PairParts h a b
      one = pair_parts h a b p

      two : PairParts h b c
      two = pair_parts h b c q

      go : (0 < a) ⊎ (a ≤ 0) → IsSessionPair h a c
      go (inl some) =
          lower_first h a c some one.from two.some two.to (one.same some ∙ two.same one.some)
          (let l : place h a < place h b = one.lower some in let m : place h b < place h c = two.lower one.some in omega arith)
      go (inr none) = initial_pair h a c (omega (arith, none)) one.from two.some two.to

  pub not_itself : (a : ℕ) → IsSessionPair h a a → ⊥
  not_itself a p = let parts : PairParts h a a = pair_parts h a a p in let l : place h a < place h a = parts.lower parts.some in omega arith

  pub not_back : (a b : ℕ) → IsSessionPair h a b → IsSessionPair h b a → ⊥
  not_back a b p q = not_itself a (session_on a b a p q)
