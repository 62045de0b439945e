use Rattle.std.proofs.Common.{◌≡◌, ap, ◌∙◌, arith}
use Rattle.tcc_reads.specs.History.{count}
use Rattle.tcc_derive.specs.private.Others.{others_below}
use Rattle.tcc_derive.proofs.others.others_row.Goals as goal

pub returns : goal.returns
returns c =
    let h = c.args.graph.now in
    let whole : c.loop-v.v ≡ count h = omega (arith, c.count-v-end.ensures.value) in
    let row = c.loop-v.invariant ∙ ap (others_below h c.args.u c.args.prices.now c.as_slice-costs.result.now) whole in
    rw c.new.ensures (c.in_ok-made.made, c.in_ok-made.ensures, rw c.as_slice-costs.ensures at row)
