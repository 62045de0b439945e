-- What the writers of a block of sessions lift, all writers lift.
use Rattle.std.proofs.Common.{◌≡◌, ◌<◌, ◌⊎◌, inl, inr, ℕ, List, length, arith}
use Rattle.std.specs.List.{All}
use Rattle.std.proofs.lemmas.List.Elements.{All-contains}
use Rattle.tcc_clocks.specs.Spans.{AreBounds}
use Rattle.tcc_clocks.specs.private.Between.{IsBetween}
use Rattle.tcc_clocks.specs.declared.latest.TheConstants.{WIDE}
use Rattle.tcc_order.specs.private.CausalLinks.{IsLiftable, IsLifted}

-- what the writers of the block lift is lifted by all writers
pub lifted_between : (owners : List ℕ) (from low high : ℕ) (clock xs part : List ℕ) (a k old new : ℕ) → k < WIDE → AreBounds owners from low high
    → All (λ b. b < length owners) xs → IsBetween xs low high part → IsLifted owners from clock part a k old new → IsLifted owners from clock xs a k old new
lifted_between owners from low high clock xs part a k old new small bounds inside are is = record {
  attained = go is.attained;
  kept = is.kept;
  greatest = λ b w.
      let within = bounds b (All-contains (λ (z : ℕ). z < length owners) xs b inside w.2) (omega (arith, w.3)) (omega (arith, w.3, small)) in
      is.greatest b (w.0, w.1, are.all b w.2 within.0 within.1, w.3, w.4);
}
  where
    go : (new ≡ old) ⊎ IsLiftable owners from clock part a k new → (new ≡ old) ⊎ IsLiftable owners from clock xs a k new
    go (inl same) = inl same
    go (inr w) = inr (w.0, w.1, are.among new w.2, w.3, w.4)
