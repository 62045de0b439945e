use Rattle.std.proofs.Common.{rules, ◌≡◌, refl, sym}
use Rattle.tcc_steal.specs.declared.stage.Stage.TheVariants as stage
use Rattle.tcc_steal.proofs.Machining.{IsHeld, machine_in, held, search_is, settle_made, begun_search}
use Rattle.tcc_steal.proofs.world.World.settle.Goals.{In-Some-take}
use Rattle.tcc_steal.proofs.world.World.settle.Goals as goal

holds : (c : In-Some-take) → IsHeld (machine_in c.self.inside) c.args.worker c.in-Some.desk.now c.in-Some-take.begun
holds c =
    held c.self.inside c.args.worker c.in-Some.desk.now c.in-Some-take.begun (c.in-Some.ensures.variant.0 refl) c.in-Some.ensures.value
    c.take.ensures.value c.in-Some-take.is

going : (c : In-Some-take) → c.in-Some-take.begun.stage ≡ stage.Open
going c = search rules

pub returns-clause-happens : goal.returns-clause-happens
returns-clause-happens c =
    let taken = (goal.at.returns-clause-happens c).In-Some-take in
    rw (sym c.self.view_is)
    (λ j priced is. settle_made j c.settle.new.self (holds taken) (going taken) c.settle.ensures.start
    (c.settle.ensures.grows j priced (search_is is (holds taken))))

pub returns-clause-answers : goal.returns-clause-answers
returns-clause-answers c =
    let taken = (goal.at.returns-clause-answers c).In-Some-take in
    rw (sym c.self.view_is) (_, begun_search (holds taken), going taken)
