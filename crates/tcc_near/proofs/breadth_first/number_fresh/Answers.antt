use Rattle.std.proofs.Common.{rules, ◌≡◌, ◌<◌, ℕ, length, slice_index}
use Rattle.std.specs.List.{Contains}
use Rattle.tcc_near.specs.private.Breadth.{unnumbered}
use Rattle.tcc_near.proofs.FreshLemmas.{fresh_new, round}
use Rattle.tcc_near.proofs.breadth_first.number_fresh.Goals as goal

pub number-requires-clause-new : goal.number-requires-clause-new
number-requires-clause-new c =
    rw c.deref.ensures.value
    (fresh_new c.args.steps.now c.args.words.now c.args.seen.now c.take_fresh.new.fresh.items c.requires.inside c.requires.seen
    c.in_ok-take_fresh.ensures.fresh)

pub returns-clause-round : goal.returns-clause-round
returns-clause-round c =
    let old = c.args.steps.now in
    let new = c.number.new.steps in
    let fresh = c.take_fresh.new.fresh.items in
    let each : (b : ℕ) → Contains fresh b → slice_index new b ≡ c.args.distance = rw c.deref.ensures.value at c.number.ensures.each in
    let others : (b : ℕ) → (Contains fresh b → ⊥) → slice_index new b ≡ slice_index old b = rw c.deref.ensures.value at c.number.ensures.others in
    let fewer : 0 < length fresh → unnumbered new < unnumbered old = rw c.deref.ensures.value at c.number.ensures.fewer in
    let same : length new ≡ length old = search rules in
    round old c.args.words.now c.args.seen.now fresh c.requires.inside c.requires.seen c.in_ok-take_fresh.ensures.fresh new c.args.distance
    c.requires.walk each others c.take_fresh.new.seen same c.in_ok-take_fresh.ensures.seen fewer
