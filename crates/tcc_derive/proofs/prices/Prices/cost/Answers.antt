use Rattle.std.proofs.Common.{◌+◌, ◌<◌, ◌≤◌, ◌≡◌, [], ◌∙◌, sym, slice_index, arith}
use Rattle.std.proofs.lemmas.List.{get_or_read}
use Rattle.tcc_graph.specs.Tables.{row_of}
use Rattle.tcc_derive.proofs.OthersLemmas.{cost_later, cost_other}
use Rattle.tcc_derive.proofs.prices.Prices.cost.Goals.{else-u-v-via-then-u-v+else-v-end, else-u-v-via-else-u-v}
use Rattle.tcc_derive.proofs.prices.Prices.cost.Goals as goal

pub returns-then-v-end : goal.returns-then-v-end
returns-then-v-end c =
    let u = c.args.u in
    let v = c.args.v in
    let below = rw (← c.self.view_is) at c.requires.from in
    let end : c.index-end.result.now ≡ slice_index c.self.inside.ends.items u =
    get_or_read c.self.inside.ends.items u c.index-end.result.now (omega (arith, below, c.self.invariant.0.ends)) c.index-end.ensures 0 in
    rw (← c.self.view_is) (sym (cost_later _ u v (omega (arith, c.if-u-v.true), omega (arith, c.if-v-end.true, end))))

pub cost_among-requires : goal.cost_among-requires
cost_among-requires c =
    let u = c.args.u in
    let below = rw (← c.self.view_is) at c.requires.from in
    let value : c.as_slice.result.now ≡ row_of c.self.inside.others.items u =
    c.as_slice.ensures ∙ get_or_read c.self.inside.others.items u c.index.result.now (omega (arith, below, c.self.invariant.0.others)) c.index.ensures [] in
    rw value (c.self.invariant.0.ascending u below)

pub returns : goal.returns
returns c =
    let u = c.args.u in
    let v = c.args.v in
    let below = rw (← c.self.view_is) at c.requires.from in
    let end : c.index-end.result.now ≡ slice_index c.self.inside.ends.items u =
    get_or_read c.self.inside.ends.items u c.index-end.result.now (omega (arith, below, c.self.invariant.0.ends)) c.index-end.ensures 0 in
    let value : c.as_slice.result.now ≡ row_of c.self.inside.others.items u =
    c.as_slice.ensures ∙ get_or_read c.self.inside.others.items u c.index.result.now (omega (arith, below, c.self.invariant.0.others)) c.index.ensures [] in
    let far : (u + 1 ≤ v) × (v < slice_index c.self.inside.ends.items u) → ⊥ = λ w. elim c.else-u-v.branch [
      | else-u-v-via-then-u-v+else-v-end b ↦ absurd (omega (arith, w.1, b.if-v-end.false, end))
      | else-u-v-via-else-u-v b ↦ absurd (omega (arith, w.0, b.if-u-v.false))
    ] in
    rw (← c.self.view_is) (c.cost_among.ensures ∙ (rw value (sym (cost_other _ u v far))))
