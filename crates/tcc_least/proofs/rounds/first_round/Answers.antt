use Rattle.std.proofs.Common.{below_more, ℕ, ◌<◌, ◌≤◌, ◌≡◌, ◌⊎◌, inl, inr, sym, subst, arith}
use Rattle.std.proofs.lemmas.Bool.{cases_lt}
use Rattle.tcc_reads.specs.History.{History}
use Rattle.tcc_least.specs.Shapes.{IsRound, IsFirstPlace}
use Rattle.tcc_least.proofs.rounds.first_round.Goals as goal

first_place : (h : History) (n a c : ℕ) → ((k : ℕ) → k < a → (d : ℕ) → IsRound h n k d → ⊥)
    → IsRound h n a c × ((d : ℕ) → IsRound h n a d → c ≤ d) → IsFirstPlace (IsRound h n) a c
first_place h n a c none here = record { here = here.0; first = λ k l round. go k l round (cases_lt k a) (cases_lt a k) }
  where
    go : (k l : ℕ) → IsRound h n k l → (k < a) ⊎ (a ≤ k) → (a < k) ⊎ (k ≤ a) → (a < k) ⊎ ((a ≡ k) × (c ≤ l))
    go k l round (inl before) p = absurd (none k before l round)
    go k l round (inr from) (inl after) = inl after
    go k l round (inr from) (inr upto) = let same : a ≡ k = omega arith in inr (same, here.1 l (subst (λ (z : ℕ). IsRound h n z l) (sym same) round))

pub returns-in-Some : goal.returns-in-Some
returns-in-Some c = first_place c.args.graph.now c.args.below c.loop-source.source c.in-Some.reader c.loop-source.invariant c.in-Some.ensures

pub loop-source-preserved : goal.loop-source-preserved
loop-source-preserved c = below_more _ _ c.loop-source.invariant c.in_default.ensures

pub returns : goal.returns
returns c = λ a d round. c.loop-source.invariant a (omega (arith, round.0.1.0, c.loop-source-test.false, c.count-source-end.ensures.value)) d round
