use Rattle.std.proofs.Common.{sym, ap, arith, ◌∙◌, length}
use Rattle.std.proofs.lemmas.Bool.{ltb-true}
use Rattle.tcc_check.proofs.Sessions.{at_parts}
use Rattle.tcc_check.proofs.latest.is_owned.Goals as goal

pub returns-in-Some : goal.returns-in-Some
returns-in-Some c = λ t some below.
    let stand = at_parts c.args.graph.now c.args.number c.in-Some.owner c.in-Some.field-0-1 (sym c.at.ensures ∙ c.in-Some.is) in
    let less = ltb-true _ _ t in
    omega (arith, stand.2, less, ap length c.sessions.ensures.value)
