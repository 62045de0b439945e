use Rattle.std.proofs.Common.{ℕ, inl, inr, subst, arith}
use Rattle.std.specs.Prelude.{min}
use Rattle.tcc_graph.specs.Levels.{judged}
use Rattle.tcc_least.specs.Shapes.{IsRound, IsFirstPlace}
use Rattle.tcc_least.proofs.Shapes.{shape_cycle, none_below}
use Rattle.tcc_least.proofs.short.short_cycle.Goals as goal

pub returns-in-Some-clause-place : goal.returns-in-Some-clause-place
returns-in-Some-clause-place c =
    subst (λ (z : ℕ). IsFirstPlace (IsRound c.args.graph.now z) c.in-Some.from c.in-Some.to) c.up_to_four-below.ensures c.in-Some.ensures

pub returns-in-Some-clause-cycle : goal.returns-in-Some-clause-cycle
returns-in-Some-clause-cycle c = λ level.
    let n : ℕ = min c.args.cost 4 in
    let round : IsRound c.args.graph.now n c.in-Some.from c.in-Some.to
    = subst (λ (z : ℕ). IsRound c.args.graph.now z c.in-Some.from c.in-Some.to) c.up_to_four-below.ensures c.in-Some.ensures.here in
    shape_cycle (judged c.args.graph.now level) n (inl (c.in-Some.from, c.in-Some.to, round))

pub returns-then-below-le3-clause-cycle : goal.returns-then-below-le3-clause-cycle
returns-then-below-le3-clause-cycle c = λ level.
    let n : ℕ = min c.args.cost 4 in
    let rounds : (a d : ℕ) → IsRound c.args.graph.now n a d → ⊥
    = subst (λ (z : ℕ). (a d : ℕ) → IsRound c.args.graph.now z a d → ⊥) c.up_to_four-below.ensures c.in_default.ensures in
    none_below (judged c.args.graph.now level) n (omega arith) rounds (λ few. absurd (omega (arith, c.up_to_four-below.ensures, c.if-below-le3.true)))

pub returns-in-Some-first_return-clause-place : goal.returns-in-Some-first_return-clause-place
returns-in-Some-first_return-clause-place c =
    let rounds : (a d : ℕ) → IsRound c.args.graph.now (min c.args.cost 4) a d → ⊥
    = subst (λ (z : ℕ). (a d : ℕ) → IsRound c.args.graph.now z a d → ⊥) c.up_to_four-below.ensures c.in_default.ensures in
    (rounds, omega (arith, c.up_to_four-below.ensures, c.if-below-le3.false), c.in-Some-first_return.ensures)

pub returns-in-Some-first_return-clause-cycle : goal.returns-in-Some-first_return-clause-cycle
returns-in-Some-first_return-clause-cycle c = λ level.
    shape_cycle (judged c.args.graph.now level) (min c.args.cost 4)
    (inr (
      omega (arith, c.up_to_four-below.ensures, c.if-below-le3.false),
      (c.in-Some-first_return.from, c.in-Some-first_return.to, c.in-Some-first_return.ensures.here),
    ))

pub returns-in-None-clause-cycle : goal.returns-in-None-clause-cycle
returns-in-None-clause-cycle c = λ level.
    let rounds : (a d : ℕ) → IsRound c.args.graph.now (min c.args.cost 4) a d → ⊥
    = subst (λ (z : ℕ). (a d : ℕ) → IsRound c.args.graph.now z a d → ⊥) c.up_to_four-below.ensures c.in_default.ensures in
    none_below (judged c.args.graph.now level) (min c.args.cost 4) (omega arith) rounds (λ few. c.in-None.ensures)
