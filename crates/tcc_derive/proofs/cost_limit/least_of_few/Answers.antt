use Rattle.std.proofs.Common.{[], ℕ, List, ◌≡◌, ◌<◌, ◌≤◌, ◌∙◌, ◌⊎◌, inl, inr, ap, length, min, refl, slice_index, arith}
use Rattle.std.proofs.lemmas.List.{get_or_read}
use Rattle.tcc_graph.specs.Tables.{row_of}
use Rattle.tcc_derive.specs.private.Closings.{HasMany, IsClosingOrNone, NoOtherCheaper}
use Rattle.tcc_derive.proofs.LimitLemmas.{lesser, closing_alone, closing_back, few_still, others_still, up_to_next}
use Rattle.tcc_derive.proofs.cost_limit.least_of_few.Goals.{then-row-few, else-row-few}
use Rattle.tcc_derive.proofs.cost_limit.least_of_few.Goals as goal

pub loop-b-preserved : goal.loop-b-preserved
loop-b-preserved c =
    let near = c.args.near.now.rows in
    let prices = c.args.prices.now in
    let others = c.args.others.now in
    let few = c.args.few in
    let at = c.loop-b.b in
    let inside : at < length prices = omega (arith, c.loop-b-test.true) in
    let below : at < length near = omega (arith, inside, c.requires.square.long) in
    let own : c.as_slice-row.result.now ≡ row_of others at =
    c.as_slice-row.ensures ∙ get_or_read others at c.index-others-b.result (omega (arith, below, c.requires.same)) c.index-others-b.is [] in
    let walk = slice_index (row_of near at) at in
    let one = c.min-least.result in
    let is : one ≡ min c.loop-b.least walk = omega (arith, rw c.row.ensures.value at c.min-least.ensures) in
    let first : IsClosingOrNone near prices one =
    lesser (IsClosingOrNone near prices) c.loop-b.least walk one is c.loop-b.invariant.0 (closing_alone near prices at walk below refl) in
    elim c.if-row-few.branch [
      | then-row-few w ↦
          let value : w.as_slice.result.now ≡ row_of prices at = w.as_slice.ensures ∙ get_or_read prices at w.index-prices-b.result inside w.index-prices-b.is [] in
          let found = w.least_of_others.result in
          let n = w.min-least-then-row-few.result in
          let less : n ≡ min one found = omega (arith, w.min-least-then-row-few.ensures) in
          rw w.least-is (
            lesser (IsClosingOrNone near prices) one found n less first
                (closing_back near prices at found below (rw value at w.least_of_others.ensures.attained)),
            up_to_next (λ b. (n ≤ slice_index (row_of near b) b) × (HasMany few others b ⊎ NoOtherCheaper near (row_of prices b) b (row_of others b) n)) at
                (λ b before. few_still near prices others few b c.loop-b.least n (omega (arith, is, less)) (c.loop-b.invariant.1 b before)) (
                  omega (arith, is, less),
                  inr (others_still near (row_of prices at) at (row_of others at) found n (omega (arith, less)) (rw (value, own) at w.least_of_others.ensures.least)),
                ),
          )
      | else-row-few w ↦
          rw w.least-is (
            first,
            up_to_next (λ b. (one ≤ slice_index (row_of near b) b) × (HasMany few others b ⊎ NoOtherCheaper near (row_of prices b) b (row_of others b) one)) at
                (λ b before. few_still near prices others few b c.loop-b.least one (omega (arith, is)) (c.loop-b.invariant.1 b before))
                (omega (arith, is), inl (omega (arith, w.if-row-few, ap (λ (row : List (ℕ × ℕ)). length row) own))),
          )
    ]
