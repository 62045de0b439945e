-- The transactions of a circle have numbers of the history.
use Rattle.std.proofs.Common.{◌≡◌, ◌<◌, ℕ, ◌+◌, ◌-◌, inl, inr, List, length, All, get_or, subst, arith}
use Rattle.std.proofs.lemmas.Bool.{cases_lt}
use Rattle.std.proofs.lemmas.List.{get_or_default}
use Rattle.tcc_reads.specs.History.{History, count}
use Rattle.tcc_graph.proofs.Pairs.{pair_below}
use Rattle.tcc_survey.specs.Circles.{IsCircle}

pub circle_below : (h : History) (circle : List ℕ) → IsCircle h circle → All (λ t. t < count h) circle
circle_below h circle is = λ k d inside. subst (λ t. t < count h) (get_or_default circle k 0 d inside) (at k inside)
  where
    at : (k : ℕ) → k < length circle → get_or circle k 0 < count h
    at k inside = elim (cases_lt (k + 1) (length circle)) [
      | inl within ↦ (pair_below h (get_or circle (k + 1) 0) (get_or circle k 0) (is.each k within)).1
      | inr past ↦
          let last : length circle - 1 ≡ k = omega (arith, inside, past) in
          subst (λ m. get_or circle m 0 < count h) last (pair_below h (get_or circle 0 0) (get_or circle (length circle - 1) 0) is.closed).1
    ]
