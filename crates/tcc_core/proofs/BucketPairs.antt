-- A number is linked in between two others, and taken out from between them. Each lemma on pairs serves both directions.
use Rattle.std.proofs.Common.{◌≡◌, ◌≢◌, ◌<◌, ◌≤◌, ◌+◌, ℕ, arith}
use Rattle.tcc_core.specs.private.LinkedBuckets.{IsPaired, Falls}

-- g is f but for what it has at one index, or at two
pub record IsOneOff (f g : ℕ → ℕ) (i a : ℕ) : Type 0 where
  pub here : g i ≡ a
  pub kept : (x : ℕ) → x ≢ i → g x ≡ f x

pub record IsTwoOff (f g : ℕ → ℕ) (i a j b : ℕ) : Type 0 where
  pub first : g i ≡ a
  pub second : g j ≡ b
  pub kept : (x : ℕ) → x ≢ i → x ≢ j → g x ≡ f x

-- v comes in between s and h
pub put_paired : {size v b s h : ℕ} {N P H N' P' H' : ℕ → ℕ} → IsPaired size N P H → IsOneOff H H' v b → IsTwoOff N N' v h s v → IsTwoOff P P' v s h v
    → size ≤ H v → b < size → H s ≡ b → N s ≡ h
    → IsPaired size N' P' H'
put_paired paired homes nexts prevs out within stands leads = record {
  same = λ x at. grind (arith, paired.same, paired.back, homes.kept, nexts.kept, prevs.kept);
  back = λ x at. grind (arith, paired.same, paired.back, homes.kept, nexts.kept, prevs.kept);
}

pub put_falls : {size v b s h : ℕ} {N P H R N' H' R' : ℕ → ℕ} (count : ℕ) → IsPaired size N P H → IsOneOff H H' v b → IsTwoOff N N' v h s v
    → IsOneOff R R' v (R h + 1) → size ≤ H v → b < size → H s ≡ b → N s ≡ h → count ≤ s
    → Falls count size N H R → Falls count size N' H' R'
put_falls count paired homes nexts ranks out within stands leads end falls =
    λ x low at. grind (arith, falls, paired.same, homes.kept, nexts.kept, ranks.kept)

-- v is taken out from between p and n
pub take_paired : {size v b p n : ℕ} {N P H N' P' H' : ℕ → ℕ} → IsPaired size N P H → IsPaired size P N H → IsOneOff H H' v b → IsOneOff N N' p n
    → IsOneOff P P' n p → H v < size → size ≤ b → P v ≡ p → N v ≡ n → n ≢ v
    → IsPaired size N' P' H'
take_paired onward backward homes nexts prevs stands out before behind alone = record {
  same = λ x at. grind (arith, onward.same, onward.back, backward.same, backward.back, homes.kept, nexts.kept, prevs.kept);
  back = λ x at. grind (arith, onward.same, onward.back, backward.same, backward.back, homes.kept, nexts.kept, prevs.kept);
}

pub take_falls : {size v b p n : ℕ} {N P H N' H' : ℕ → ℕ} (count : ℕ) (R : ℕ → ℕ) → IsPaired size P N H → IsOneOff H H' v b → IsOneOff N N' p n → v < count
    → H v < size → size ≤ b → P v ≡ p → N v ≡ n
    → Falls count size N H R → Falls count size N' H' R
take_falls count R backward homes nexts below stands out before behind falls =
    λ x low at. grind (arith, falls, backward.back, homes.kept, nexts.kept)
