use Rattle.std.proofs.Common.{◌≤◌, ◌∙◌, length, get_or, slice_index, sym, arith}
use Rattle.std.specs.List.{Contains}
use Rattle.std.proofs.lemmas.List.{get_or_default}
use Rattle.std.proofs.lemmas.List.Elements.{Contains-get_or}
use Rattle.tcc_forget.specs.Cases.{Observes}
use Rattle.tcc_forget.proofs.ListedLinks.{seen, unseen, upto_all, upto_more}
use Rattle.tcc_forget.proofs.slots.is_passed.Goals as goal

pub bounds-ats-b : goal.bounds-ats-b
bounds-ats-b g c =
    let i = c.loop-b.b-index in
    let listed = c.args.listed.now in
    let among : Contains listed (get_or listed i 0) = Contains-get_or listed i 0 c.loop-b-test.true in
    omega (arith, c.requires.inside (get_or listed i 0) among, c.requires.slots.long)

pub returns-then-goes_to : goal.returns-then-goes_to
returns-then-goes_to g c =
    let i = c.loop-b.b-index in
    let listed = c.args.listed.now in
    let among : Contains listed (get_or listed i 0) = Contains-get_or listed i 0 c.loop-b-test.true in (
      get_or listed i 0,
      among,
      seen g.on.history g.on.entry g.on.numbers c.args.ats.now c.args.clock.now c.requires.slots c.requires.clock_of (get_or listed i 0)
          (c.requires.inside (get_or listed i 0) among) (sym c.goes_to.ensures ∙ c.if-goes_to.true),
    )

pub loop-b-preserved : goal.loop-b-preserved
loop-b-preserved g c =
    let i = c.loop-b.b-index in
    let listed = c.args.listed.now in
    let among : Contains listed (get_or listed i 0) = Contains-get_or listed i 0 c.loop-b-test.true in
    upto_more listed (λ b. Observes g.on.history g.on.entry (slice_index g.on.numbers b) → ⊥) i (get_or listed i 0) c.loop-b-test.true
    (get_or_default listed i 0 (get_or listed i 0) c.loop-b-test.true) c.loop-b.invariant
    (unseen g.on.history g.on.entry g.on.numbers c.args.ats.now c.args.clock.now c.requires.slots c.requires.clock_of (get_or listed i 0)
    (c.requires.inside (get_or listed i 0) among) (sym c.goes_to.ensures ∙ c.if-goes_to.false))

pub returns : goal.returns
returns g c b there =
    let past : length c.args.listed.now ≤ c.loop-b.b-index = omega (arith, c.loop-b-test.false) in
    upto_all c.args.listed.now (λ b. Observes g.on.history g.on.entry (slice_index g.on.numbers b) → ⊥) c.loop-b.b-index past c.loop-b.invariant b there
