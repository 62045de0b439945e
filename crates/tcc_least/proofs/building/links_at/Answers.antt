use Rattle.std.proofs.Common.{subst}
use Rattle.std.proofs.lemmas.Result.{IfOk-weaker}
use Rattle.tcc_least.specs.Shapes.{IsRound, IsFirstPlace, IsFirstShort}
use Rattle.tcc_least.proofs.building.links_at.Goals as goal

pub returns-in-Round : goal.returns-in-Round
returns-in-Round c =
    let h = c.args.graph.now in
    IfOk-weaker c.round_links.result _ _
    (λ links short n low first.
    let place : IsFirstPlace (IsRound h n) c.in-Round.from c.in-Round.to = subst (λ z. IsFirstShort h n z) c.in-Round.is first in
    short n low place.here)
    c.round_links.ensures
