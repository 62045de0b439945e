use Rattle.std.proofs.Common.{List, [], ◌∷◌, ◌++◌, ◌≡◌, ap, refl, ◌∙◌}
use Rattle.tcc_watch.specs.declared.at.At.{At}
use Rattle.tcc_watch.proofs.Beginning.{first_state}
use Rattle.tcc_watch.proofs.delivered.Delivered.new.Goals as goal

pub returns : goal.returns
returns c sessions =
    let stands : c.push.new.self.items ≡ record { session = 0; place = 0 } ∷ []
    = c.in_ok-push.ensures.items ∙ ap (λ (z : List At). z ++ record { session = 0; place = 0 } ∷ []) c.new-stands.ensures.items in
    let clocks : c.push-2.new.self.items ≡ [] ∷ []
    = c.in_ok-push-2.ensures.items ∙ (λ i. c.new-clocks.ensures.items i ++ c.new.ensures i ∷ []) in
    let closure : c.push-3.new.self.items ≡ [] ∷ []
    = c.in_ok-push-3.ensures.items ∙ (λ i. c.new-closure.ensures.items i ++ c.new-2.ensures i ∷ []) in
    first_state sessions _ stands c.new-3.ensures.items clocks closure c.new-4.ensures
