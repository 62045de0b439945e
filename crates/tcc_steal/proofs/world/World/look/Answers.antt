use Rattle.std.proofs.Common.{rules, refl, sym}
use Rattle.tcc_steal.proofs.Machining.{IsHeld, machine_in, found, some_is, look_made, begun_search}
use Rattle.tcc_steal.specs.declared.desk.Begun.{Begun}
use Rattle.tcc_steal.proofs.world.World.look.Goals.{Else-is_none}
use Rattle.tcc_steal.proofs.world.World.look.Goals as goal

holds : (c : Else-is_none) → (b : Begun) × IsHeld (machine_in c.self.inside) c.args.worker c.in-Some.desk.now b
holds c =
    let (b, has) = some_is c.in-Some.desk.now.search (sym c.if-is_none.ensures) in
    (b, record { at = found c.self.inside c.args.worker c.in-Some.desk.now (c.in-Some.ensures.variant.0 refl) c.in-Some.ensures.value; has = has })

pub returns : goal.returns
returns c =
    let has = (holds (goal.at.returns c).Else-is_none).1 in
    (search rules, search rules, rw (sym c.self.view_is) (λ j is. look_made has), rw (sym c.self.view_is) (_, begun_search has))
