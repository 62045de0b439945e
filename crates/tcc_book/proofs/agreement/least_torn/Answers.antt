use Rattle.std.proofs.Common.{◌≡◌, ◌+◌, Some, [], ◌∷◌, ◌++◌, take, sym, ap, ◌∙◌, subst}
use Rattle.std.proofs.lemmas.List.{take_more}
use Rattle.tcc_book.specs.Passes.{LeastTorn}
use Rattle.tcc_book.specs.private.Lesser.{lesser}
use Rattle.tcc_book.proofs.Agreed.{torn-more, torn-same}
use Rattle.tcc_book.proofs.agreement.least_torn.Goals as goal
use Rattle.tcc_book.proofs.agreement.least_torn.Goals.{then-not-agrees, else-not-agrees}

pub loop-pass-preserved : goal.loop-pass-preserved
loop-pass-preserved c =
    let passes = c.args.passes.now in
    let front = take c.loop-pass.pass-index passes in
    let pass = c.pass-item.result in
    let longer : take (c.loop-pass.pass-index + 1) passes ≡ front ++ pass ∷ [] =
    take_more passes c.loop-pass.pass-index pass c.loop-pass-test.true ∙ ap (λ p. front ++ p ∷ []) (sym c.pass-item.is) in
    rw longer (elim c.if-not-agrees.branch [
      | then-not-agrees w ↦
          subst (LeastTorn c.args.copy.now (front ++ pass ∷ []))
          (sym (w.least-is ∙ ap Some (w.lesser.ensures ∙ ap (lesser c.loop-pass.least) w.session.ensures)))
          (torn-more c.args.copy.now front pass c.loop-pass.least c.loop-pass.invariant (c.agrees.ensures.no w.if-not-agrees.true))
      | else-not-agrees w ↦
          subst (LeastTorn c.args.copy.now (front ++ pass ∷ [])) (sym w.least-is)
          (torn-same c.args.copy.now front pass c.loop-pass.least c.loop-pass.invariant (c.agrees.ensures.yes w.if-not-agrees.false))
    ])
