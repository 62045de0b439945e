use Rattle.std.proofs.Common.{◌≤◌, inl, inr, ℕ, get_or, sym, subst, arith}
use Rattle.std.proofs.lemmas.Bool.{cases_eq}
use Rattle.tcc_lanes.proofs.stretches.any_dearer.Goals as goal

pub loop-v-preserved : goal.loop-v-preserved
loop-v-preserved c = λ none k from l.
    let w = c.is_dearer_by-is_dearer.ensures none in
    elim (cases_eq k c.loop-v.v) [
      | inl is ↦ subst (λ (z : ℕ). get_or c.args.costs.now z 0 ≤ c.args.cost) (sym is) w.1
      | inr other ↦ c.loop-v.invariant w.0 k from (omega (arith, l, other))
    ]
