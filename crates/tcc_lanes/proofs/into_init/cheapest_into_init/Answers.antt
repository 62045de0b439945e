use Rattle.std.proofs.Common.{◌+◌, ◌-◌, ◌/◌, ◌<◌, sym, ◌∙◌, arith}
use Rattle.std.proofs.lemmas.Bool.{false≢true}
use Rattle.tcc_graph.specs.Levels.{judged}
use Rattle.tcc_lanes.specs.Among.{HasCheaperIntoInit}
use Rattle.tcc_lanes.proofs.IntoInit.{costs_down, costs_halved, costs_up}
use Rattle.tcc_lanes.proofs.into_init.cheapest_into_init.Goals.{then-branch, else-branch}
use Rattle.tcc_lanes.proofs.into_init.cheapest_into_init.Goals as goal

pub returns-then-high-low-le1 : goal.returns-then-high-low-le1
returns-then-high-low-le1 c =
    costs_halved (HasCheaperIntoInit (judged c.args.graph.now c.args.level) c.args.key_indices.now) c.args.most c.loop-turn._turn c.loop-turn.low c.loop-turn.high
    c.loop-turn.invariant (omega (arith, c.if-high-low-le1.true))

pub loop-turn-preserved : goal.loop-turn-preserved
loop-turn-preserved c =
    let Has = HasCheaperIntoInit (judged c.args.graph.now c.args.level) c.args.key_indices.now in
    let low = c.loop-turn.low in
    let high = c.loop-turn.high in
    let above : low < low + (high - low) / 2 = omega (arith, c.if-high-low-le1.false) in
    let below : low + (high - low) / 2 < high = omega (arith, c.if-high-low-le1.false) in
    elim c.if-branch.branch [
      | then-branch w ↦ rw (w.low-is, w.high-is) (costs_down Has c.args.most c.loop-turn._turn low high (low + (high - low) / 2) c.loop-turn.invariant above below
          (c.in_ok-has_cheaper_into_init-2.ensures.0 w.if-branch.true))
      | else-branch w ↦ rw (w.low-is, w.high-is) (costs_up Has c.args.most c.loop-turn._turn low high (low + (high - low) / 2) c.loop-turn.invariant above below
          (λ has. false≢true (sym w.if-branch.false ∙ c.in_ok-has_cheaper_into_init-2.ensures.1 has)))
    ]
