use Rattle.std.proofs.Common.{ℕ, ◌<◌, ◌≤◌, ◌≡◌, length, get_or, arith, subst}
use Rattle.std.proofs.lemmas.List.{get_or_default, take_all}
use Rattle.tcc_derive.proofs.ChoiceLemmas.{IsBest, nearer, no_nearer, nearest_of}
use Rattle.tcc_derive.proofs.choices.nearest.Goals.{then-count-least, else-count-least}
use Rattle.tcc_derive.proofs.choices.nearest.Goals as goal
use Rattle.tcc_near.specs.declared.walk_lengths.TheConstants.{NONE}

pub loop-reader-preserved : goal.loop-reader-preserved
loop-reader-preserved c =
    let readers = c.args.readers.now in
    let steps = c.args.steps.now in
    let range = λ (d : ℕ). let f = c.type_inv.steps d in let bound : get_or steps d 0 ≤ NONE = omega (arith, f) in bound in
    let i = c.loop-reader.reader-index in
    let r = get_or readers i 0 in
    let within : i < length readers = c.loop-reader-test.true in
    let is : r ≡ get_or readers i r = get_or_default readers i 0 r within in
    elim c.if-count-least.branch [
      | then-count-least w ↦ rw (w.least-is, w.best-is)
          (nearer readers steps i r c.requires.order within is range c.loop-reader.least c.loop-reader.best c.loop-reader.invariant w.if-count-least.true)
      | else-count-least w ↦ rw (w.least-is, w.best-is)
          (no_nearer readers steps i r c.requires.order within is range c.loop-reader.least c.loop-reader.best c.loop-reader.invariant w.if-count-least.false)
    ]

pub returns : goal.returns
returns c =
    nearest_of c.args.readers.now c.args.steps.now c.loop-reader.least c.loop-reader.best
    (subst (λ rs. IsBest rs c.args.steps.now c.loop-reader.least c.loop-reader.best)
    (take_all c.loop-reader.reader-index c.args.readers.now c.loop-reader-test.false) c.loop-reader.invariant)
