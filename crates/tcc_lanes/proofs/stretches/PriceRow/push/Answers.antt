use Rattle.std.proofs.Common.{◌≡◌, ◌<◌, ◌+◌, ◌-◌, ◌++◌, ◌∷◌, [], List, ℕ, length, get_or, sym, ap, ◌∙◌, arith}
use Rattle.std.proofs.lemmas.List.{get_or_read}
use Rattle.tcc_lanes.specs.declared.stretches.Stretch.{Stretch}
use Rattle.tcc_lanes.proofs.StretchLemmas.{longer_last}
use Rattle.tcc_lanes.proofs.stretches.PriceRow.push.Goals as goal

pub returns-then-index-price : goal.returns-then-index-price
returns-then-index-price c =
    let stretches = c.self.inside.stretches.items in
    let last : ℕ = c.len-count.result - 1 in
    let none : Stretch = record { columns = 0; price = 0 } in
    let inside : last < length stretches = omega (arith, c.if-count-gt0.true, c.len-count.ensures, c.self.inside.stretches.ok.0) in
    let whole : last + 1 ≡ length stretches = omega (arith, c.if-count-gt0.true, c.len-count.ensures, c.self.inside.stretches.ok.0) in
    let is : c.index_mut.result.now ≡ get_or stretches last none = get_or_read stretches last c.index_mut.result.now inside c.index_mut.ensures.value none in
    let read : c.index.result.now ≡ get_or stretches last none = get_or_read stretches last c.index.result.now inside c.index.ensures none in
    longer_last stretches last c.index_mut.result.now c.args.price whole is (ap (λ (s : Stretch). s.price) (is ∙ sym read) ∙ c.if-index-price.true)
    ∙ ap (λ (row : List ℕ). row ++ c.args.price ∷ []) c.self.view_is
