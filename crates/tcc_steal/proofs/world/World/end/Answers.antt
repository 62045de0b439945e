use Rattle.std.proofs.Common.{rules, ◌≡◌, ◌∙◌, ◌++◌, ◌∷◌, [], Some, refl, sym, ap}
use Rattle.tcc_core.specs.Shares.{Stop}
use Rattle.tcc_steal.specs.Steps.{end_of}
use Rattle.tcc_steal.proofs.Machining.{IsHeld, machine_in, found, held, stop_is, same_world, finished_again, end_made, begun_search}
use Rattle.tcc_steal.proofs.world.World.end.Goals.{In-Some-take}
use Rattle.tcc_steal.proofs.world.World.end.Goals as goal

holds : (c : In-Some-take) → IsHeld (machine_in c.self.inside) c.args.worker c.in-Some.desk.now c.in-Some-take.begun
holds c =
    held c.self.inside c.args.worker c.in-Some.desk.now c.in-Some-take.begun (c.in-Some.ensures.variant.0 refl) c.in-Some.ensures.value
    c.take.ensures.value c.in-Some-take.is

over : (c : In-Some-take) → (stop : Stop) × (end_of c.in-Some-take.begun.stage ≡ Some stop)
over c = stop_is c.in-Some-search.begun c.in-Some-take.begun (search rules) c.if-not-is_over.ensures

pub returns-then-is_err : goal.returns-then-is_err
returns-then-is_err c =
    let at = found c.self.inside c.args.worker c.in-Some.desk.now (c.in-Some.ensures.variant.0 refl) c.in-Some.ensures.value in
    let same = same_world (machine_in c.self.inside) c.args.worker c.in-Some.desk.now _ at (finished_again c.in-Some.desk.now c.reserve.new.self c.reserve.ensures.items) in
    (search rules, search rules, λ j is. _, rw (sym c.self.view_is) same)

pub returns : goal.returns
returns c =
    let taken = (goal.at.returns c).In-Some-take in
    let (stop, ended) = over taken in
    let pushed = c.in-Ok.ensures.items ∙ ap (λ fs. fs ++ c.in-Some-take.begun ∷ []) c.reserve.ensures.items in (
      search rules,
      λ j is. search rules,
      rw (sym c.self.view_is) (λ j is. end_made c.push.new.self c.take.new.self stop (holds taken) ended pushed c.take.ensures.after),
      rw (sym c.self.view_is) (_, begun_search (holds taken), stop, ended),
    )
