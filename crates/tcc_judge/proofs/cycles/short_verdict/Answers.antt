use Rattle.std.proofs.Common.{◌≡◌, inl, inr, refl, subst, arith}
use Rattle.std.specs.Prelude.{min}
use Rattle.tcc_graph.specs.Levels.{judged}
use Rattle.tcc_least.specs.Shapes.{NoneBelow}
use Rattle.tcc_graph.specs.declared.level.Level.TheVariants.{Causal}
use Rattle.tcc_judge.proofs.Cycled.{first_round, no_round, first_return, none_round, none_return}
use Rattle.tcc_judge.proofs.cycles.short_verdict.Goals as goal

pub returns-in-Some-Round : goal.returns-in-Some-Round
returns-in-Some-Round c = λ level runs.
    let place = rw (c.in-Some-Round.is, c.in-Some-Round.field-0-is, c.from.ensures) at c.short_cycle.ensures.place in
    rw c.rejected_at.ensures (inl (refl, first_round c.args.graph.now c.args.cost c.requires c.in-Some-Round.from c.in-Some-Round.to place))

pub returns-in-Some-Return : goal.returns-in-Some-Return
returns-in-Some-Return c = λ level runs.
    let place = rw (c.in-Some-Return.is, c.in-Some-Return.field-0-is, c.from.ensures) at c.short_cycle.ensures.place in
    let h = c.args.graph.now in
    rw c.rejected_at-in-Some-Return.ensures (inr (
      no_round h c.args.cost c.requires place.0,
      inl (refl, first_return h c.args.cost c.requires c.in-Some-Return.from c.in-Some-Return.to place.1 place.2),
    ))

pub returns-in-None : goal.returns-in-None
returns-in-None c = λ level runs.
    let none = rw (c.in-None.is, c.from.ensures) at c.short_cycle.ensures.cycle Causal in
    let h = c.args.graph.now in
    let whole : NoneBelow (judged h level) (min c.args.cost 4) = rw (c.in-None.is, c.from.ensures) at c.short_cycle.ensures.cycle level in
    let same : min c.args.cost 4 ≡ c.args.cost = omega (arith, c.requires) in (
      none_round h c.args.cost c.requires none,
      (
        none_return h c.args.cost c.requires none,
        (
          (λ at broken. absurd (omega (arith, broken.0, c.requires))),
          ((λ more. absurd (omega (arith, more, c.requires))), (subst (NoneBelow (judged h level)) same whole, tt)),
        ),
      ),
    )
