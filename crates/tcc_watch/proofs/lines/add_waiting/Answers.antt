use Rattle.std.proofs.Common.{◌≡◌, inl, List, get_or, refl, ap, subst, ◌∙◌}
use Rattle.std.proofs.lemmas.List.{get_or_default}
use Rattle.std.specs.Prelude.{◌++◌, ◌∷◌, []}
use Rattle.tcc_watch.specs.declared.lines.Line.{Line}
use Rattle.tcc_watch.specs.private.Lines.{IsLineOf}
use Rattle.tcc_watch.proofs.lines.add_waiting.Goals as goal

pub returns-in_ok-push_back-in-Some : goal.returns-in_ok-push_back-in-Some
returns-in_ok-push_back-in-Some c =
    let of : IsLineOf c.args.lines.now.items c.args.name c.in-Some.index
    = subst (λ (z : List Line). IsLineOf z c.args.name c.in-Some.index) c.deref.ensures.value c.in-Some.ensures in
    let is : (d : Line) → c.index_mut.result.now ≡ get_or c.args.lines.now.items c.in-Some.index d
    = λ d. c.index_mut.ensures.value ∙ get_or_default c.args.lines.now.items c.in-Some.index c.index_mut.result.now d of.0 in
    inl (
      of,
      (
        record { name = c.index_mut.result.now.name; delivered = c.index_mut.result.now.delivered; waiting = c.push_back.new.self },
        (λ d. record {
          name = ap (λ (z : Line). z.name) (is d);
          delivered = ap (λ (z : Line). z.delivered) (is d);
          waiting = c.in_ok-push_back-in-Some.ensures.items ∙ ap (λ (z : Line). z.waiting.items ++ c.args.txn ∷ []) (is d);
        }),
        refl,
      ),
    )
