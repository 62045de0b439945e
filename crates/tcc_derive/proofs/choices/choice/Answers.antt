use Rattle.std.proofs.Common.{ℕ, ◌<◌, ◌≤◌, ◌≡◌, length, get_or, arith, subst, ap, ◌∙◌}
use Rattle.std.proofs.lemmas.List.{take_all}
use Rattle.tcc_graph.specs.Keys.{keys}
use Rattle.tcc_graph.proofs.SortedKeys.{keys_sorted}
use Rattle.tcc_derive.proofs.ChoiceLemmas.{IsBestChoice, choice_bound, nearer_key, no_nearer_key, choice_of}
use Rattle.tcc_derive.proofs.choices.choice.Goals.{in-Some+then-distance-least, in-Some+else-distance-least, in_default}
use Rattle.tcc_derive.proofs.choices.choice.Goals as goal
use Rattle.tcc_near.specs.declared.walk_lengths.TheConstants.{NONE}

pub loop-key-preserved : goal.loop-key-preserved
loop-key-preserved c =
    let h = c.args.graph.now in
    let steps = c.args.steps.now in
    let b = c.args.b in
    let a = c.args.a in
    let i = c.loop-key.key-index in
    let y = c.key-item.result in
    let least = c.loop-key.least in
    let best = c.loop-key.best in
    let inv = c.loop-key.invariant in
    let within : i < length (keys h) = rw c.keys-key-items.ensures at c.loop-key-test.true in
    let is : y ≡ get_or (keys h) i y = c.key-item.is ∙ ap (λ ks. get_or ks i y) c.keys-key-items.ensures in
    let range = λ (d : ℕ). let f = c.type_inv.steps d in let bound : get_or steps d 0 ≤ NONE = omega (arith, f) in bound in
    elim c.match-nearest_reader.branch [
      | in-Some+then-distance-least w ↦ rw (w.least-is, w.best-is)
          (nearer_key h steps b a (keys h) i y (keys_sorted h) within is range least best w.in-Some.reader inv w.in-Some.ensures w.if-distance-least.true)
      | in-Some+else-distance-least w ↦ rw (w.least-is, w.best-is)
          (no_nearer_key h steps b a (keys h) i y (keys_sorted h) within is range least best inv
          (λ d may. omega (arith, w.in-Some.ensures.least d may, w.if-distance-least.false)))
      | in_default w ↦ rw (w.least-is, w.best-is)
          (no_nearer_key h steps b a (keys h) i y (keys_sorted h) within is range least best inv
          (λ d may. omega (arith, w.in_default.ensures d may, (choice_bound h steps b a (keys h) i y (keys_sorted h) within is range least best inv).0)))
    ]

pub returns : goal.returns
returns c =
    let h = c.args.graph.now in
    let past : length (keys h) ≤ c.loop-key.key-index = rw c.keys-key-items.ensures at c.loop-key-test.false in
    choice_of h c.args.steps.now c.args.b c.args.a c.loop-key.least c.loop-key.best
    (subst (λ ks. IsBestChoice h c.args.steps.now c.args.b c.args.a ks c.loop-key.least c.loop-key.best)
    (take_all c.loop-key.key-index (keys h) past) c.loop-key.invariant)
