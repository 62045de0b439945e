use Rattle.std.proofs.Common.{rules, ◌≡◌, ◌++◌, ◌∷◌, [], refl, sym, subst}
use Rattle.tcc_steal.specs.Steps.{HasReturned}
use Rattle.tcc_steal.specs.declared.desk.Begun.{Begun}
use Rattle.tcc_steal.proofs.Machining.{IsHeld, machine_in, found, held, same_world, offers_again, offer_made, begun_search}
use Rattle.tcc_steal.proofs.world.World.offer.Goals.{In-Some-take}
use Rattle.tcc_steal.proofs.world.World.offer.Goals as goal

holds : (c : In-Some-take) → IsHeld (machine_in c.self.inside) c.args.worker c.in-Some.desk.now c.in-Some-take.begun
holds c =
    held c.self.inside c.args.worker c.in-Some.desk.now c.in-Some-take.begun (c.in-Some.ensures.variant.0 refl) c.in-Some.ensures.value
    c.take.ensures.value c.in-Some-take.is

returned : (c : In-Some-take) → HasReturned c.in-Some-take.begun.stage c.args.cost
returned c =
    let one : c.in-Some-search.begun ≡ c.in-Some-take.begun = search rules in
    subst (λ (x : Begun). HasReturned x.stage c.args.cost) one (c.if-not-has_returned.ensures.0 refl)

pub returns-then-is_err : goal.returns-then-is_err
returns-then-is_err c =
    let at = found c.self.inside c.args.worker c.in-Some.desk.now (c.in-Some.ensures.variant.0 refl) c.in-Some.ensures.value in
    let same : c.push.new.self.items ≡ c.in-Some.desk.now.offers.items = search rules in
    let again = same_world (machine_in c.self.inside) c.args.worker c.in-Some.desk.now _ at (offers_again c.in-Some.desk.now c.push.new.self same) in
    (search rules, search rules, λ j is. _, rw (sym c.self.view_is) again)

pub returns : goal.returns
returns c =
    let taken = (goal.at.returns c).In-Some-take in
    let pushed : c.push.new.self.items ≡ c.in-Some.desk.now.offers.items ++ c.args.cost ∷ [] = search rules in (
      search rules,
      λ j is. search rules,
      rw (sym c.self.view_is)
          (λ j is. offer_made c.args.cost c.lowered-word.result c.push.new.self (holds taken) (returned taken) c.lowered-word.ensures pushed),
      rw (sym c.self.view_is) (_, begun_search (holds taken), returned taken),
    )
