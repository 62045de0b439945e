use Rattle.std.proofs.Common.{ℕ, ◌≡◌, subst, arith}
use Rattle.tcc_least.specs.private.Returns.{IsCut}
use Rattle.tcc_least.proofs.SessionRanges.{new_range}
use Rattle.tcc_least.proofs.returning.session_at.Goals as goal

pub returns : goal.returns
returns c =
    let same : c.args.session.1 ≡ c.args.number = omega (arith, c.requires.number.3, c.if-number-session.false) in
    let cut : IsCut c.args.graph.now c.args.number = subst (λ (z : ℕ). IsCut c.args.graph.now z) same c.requires.cut in
    let range =
    new_range c.args.graph.now c.numbered.ensures.numbered c.args.number c.later-next.result.0 c.later-next.result.1 c.requires.number.0 cut
    c.requires.number.1 c.later-next.ensures.first c.later-next.ensures.order c.later-next.ensures.few c.later-next.ensures.pairs in
    record { number = (omega arith, omega (arith, c.later-next.ensures.first, c.later-next.ensures.order)); cut = range.0; session = range.1 }
