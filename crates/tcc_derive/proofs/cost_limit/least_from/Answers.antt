use Rattle.std.proofs.Common.{[], ℕ, List, ◌≡◌, ◌<◌, ◌∙◌, ap, length, arith}
use Rattle.std.proofs.lemmas.List.{get_or_read}
use Rattle.tcc_graph.specs.Tables.{row_of}
use Rattle.tcc_derive.proofs.LimitLemmas.{many_more, many_passed}
use Rattle.tcc_derive.proofs.cost_limit.least_from.Goals.{then-as_slice-few, else-as_slice-few}
use Rattle.tcc_derive.proofs.cost_limit.least_from.Goals as goal

pub loop-b-preserved : goal.loop-b-preserved
loop-b-preserved c =
    let near = c.args.near.now.rows in
    let prices = c.args.prices.now in
    let at = c.loop-b.b in
    let inside : at < length prices = omega (arith, c.loop-b-test.true) in
    let below : at < length near = omega (arith, inside, c.requires.square.long) in
    elim c.if-as_slice-few.branch [
      | then-as_slice-few w ↦
          let value : w.as_slice-then-as_slice-few.result.now ≡ row_of prices at =
          w.as_slice-then-as_slice-few.ensures ∙ get_or_read prices at w.index-prices-b.result inside w.index-prices-b.is [] in
          rw w.least-is (many_more near prices c.args.others.now c.args.few at c.args.from c.args.to c.loop-b.least w.least_back.result w.min-least.result
          below (omega (arith, w.min-least.ensures)) (rw value at w.least_back.ensures.attained) (rw value at w.least_back.ensures.least) c.loop-b.invariant)
      | else-as_slice-few w ↦
          let own : c.as_slice.result.now ≡ row_of c.args.others.now at =
          c.as_slice.ensures ∙ get_or_read c.args.others.now at c.index-others-b.result (omega (arith, below, c.requires.same)) c.index-others-b.is [] in
          rw w.least-is (many_passed near prices c.args.others.now c.args.few at c.args.from c.args.to c.loop-b.least
          (λ many. omega (arith, w.if-as_slice-few, ap (λ (row : List (ℕ × ℕ)). length row) own, many)) c.loop-b.invariant)
    ]
