-- The line that was read of how long a claim is has the text of what it says.
use Rattle.std.proofs.Common.{◌≡◌, ◌⊎◌, ℕ, ◌^◌, ◌<◌, ◌≤◌, List, [], ◌∷◌, Result, Ok, inl, inr, ap, subst, ◌∙◌, arith, codes, decimal, lit≤}
use Rattle.tcc_cert.specs.declared.fault.CertFaultKind.{CertFaultKind}
use Rattle.tcc_cert.specs.declared.ranges.TextFormat.{TextFormat}
use Rattle.tcc_cert.specs.declared.ranges.TextFormat.TheVariants.{Small, Large}
use Rattle.tcc_cert.specs.declared.reading.forms.CycleSizes.{CycleSizes}
use Rattle.tcc_cert.specs.declared.reading.forms.Sizes.{Sizes}
use Rattle.tcc_cert.specs.declared.reading.forms.Sizes.TheVariants.{Order, Cycle}
use Rattle.tcc_cert.specs.declared.version_3.TheConstants.{V3_MAX_COST}
use Rattle.tcc_cert.specs.Ranges.{ranges_at}
use Rattle.tcc_cert.specs.Texts.{Words, IsCount}
use Rattle.tcc_cert.specs.Reading.{◌>>=◌, claim_sizes, count_of, cycle_sizes, number_of, three_words}
use Rattle.tcc_cert.proofs.OneText.{by_word-parts, count, number-text, same_ok, then_parts, three_equal, three_parts}
use Rattle.tcc_cert.proofs.RangeFacts.{costs}

pub small : (most : ℕ) → most ≤ 4294967295 → most < 2 ^ 64
small most few = omega (arith, few)

pub cost-small : (scale : TextFormat) → (ranges_at scale).cost < 2 ^ 64
cost-small (Small v) = omega (arith, costs v)
cost-small Large = small V3_MAX_COST (lit≤ tt)

-- the line of a cycle
abbrev pub IsCycleSizes : TextFormat → Words → CycleSizes → Type 0
IsCycleSizes scale ws k =
    IsCount scale k.transactions × IsCount scale k.links × (k.cost ≤ (ranges_at scale).cost)
    × (ws ≡ codes "cycle" ∷ decimal k.transactions ∷ decimal k.links ∷ decimal k.cost ∷ [])

-- the line of a claim: of an order, where `of_order` says what its line is, or of a cycle
abbrev pub IsSizesText : {O : Type 0} → TextFormat → (Words → O → Type 0) → Words → Sizes O → Type 0
IsSizesText scale of_order ws (Order k) = of_order ws k
IsSizesText scale of_order ws (Cycle k) = IsCycleSizes scale ws k

cycle-sizes : (scale : TextFormat) (fields : Words) (k : CycleSizes) → three_words (cycle_sizes scale) fields ≡ Ok k → IsCycleSizes scale (codes "cycle" ∷ fields) k
cycle-sizes scale fields k e =
    let parts = three_parts (cycle_sizes scale) fields k e in
    let first = then_parts (count_of scale parts.0) _ k parts.4 in
    let second = then_parts (count_of scale parts.1) _ k first.2 in
    let third = then_parts (number_of 0 (ranges_at scale).cost parts.2) _ k second.2 in
    let n = count scale parts.0 first.0 first.1 in
    let m = count scale parts.1 second.0 second.1 in
    let l = number-text 0 (ranges_at scale).cost parts.2 third.0 (cost-small scale) third.1 in
    subst (IsCycleSizes scale (codes "cycle" ∷ fields)) (same_ok third.2)
    (n.1, m.1, l.high, ap (λ ws. codes "cycle" ∷ ws) parts.3 ∙ three_equal (codes "cycle") n.0 m.0 l.text)

module _ {O : Type 0} (scale : TextFormat) (order : Words → Result O CertFaultKind) (of_order : Words → O → Type 0) where
  sizes-choice : ((fields : Words) (k : O) → order fields ≡ Ok k → of_order (codes "order" ∷ fields) k) → (word : List ℕ) (fields : Words) (sizes : Sizes O)
      → ((word ≡ codes "order") × ((order fields >>= λ k. Ok (Order k)) ≡ Ok sizes))
      ⊎ ((word ≡ codes "cycle") × ((three_words (cycle_sizes scale) fields >>= λ k. Ok (Cycle k)) ≡ Ok sizes))
      → IsSizesText scale of_order (word ∷ fields) sizes
  sizes-choice said word fields sizes (inl is) =
      let k = then_parts (order fields) _ sizes is.1 in
      subst (IsSizesText scale of_order (word ∷ fields)) (same_ok k.2) (rw is.0 (said fields k.0 k.1))
  sizes-choice said word fields sizes (inr is) =
      let k = then_parts (three_words (cycle_sizes scale) fields) _ sizes is.1 in
      subst (IsSizesText scale of_order (word ∷ fields)) (same_ok k.2) (rw is.0 (cycle-sizes scale fields k.0 k.1))

  pub sizes-text : ((fields : Words) (k : O) → order fields ≡ Ok k → of_order (codes "order" ∷ fields) k) → (ws : Words) (sizes : Sizes O)
      → claim_sizes order scale ws ≡ Ok sizes → IsSizesText scale of_order ws sizes
  sizes-text said [] sizes e = absurd cc
  sizes-text said (word ∷ fields) sizes e =
      sizes-choice said word fields sizes
      (by_word-parts (codes "order") (codes "cycle") (λ ws. order ws >>= λ k. Ok (Order k)) (λ ws. three_words (cycle_sizes scale) ws >>= λ k. Ok (Cycle k))
      word fields sizes e)
