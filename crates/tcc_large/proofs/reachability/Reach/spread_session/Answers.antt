use Rattle.std.proofs.Common.{ℕ, ◌≡◌, sym, ap, subst}
use Rattle.std.proofs.lemmas.List.{get_or_read}
use Rattle.tcc_large.specs.private.Reaching.{AreMetBetween, number_at}
use Rattle.tcc_large.proofs.Reached.{all_later, reach_covered}
use Rattle.tcc_large.proofs.reachability.Reach.spread_session.Goals as goal

pub returns-clause-reach : goal.returns-clause-reach
returns-clause-reach c =
    let h = c.args.graph.now in
    let old = c.args.self.now in
    let mid = c.meet_between.new.self in
    let from = c.index.result.now.0 in
    let at : from ≡ number_at old.queue.items c.args.position
    = ap (λ (p : ℕ × ℕ). p.0) (get_or_read old.queue.items c.args.position c.index.result.now c.requires.position c.index.ensures (0, 0)) in
    let met : AreMetBetween h mid.positions from c.later-low.result.0 c.uncovered-end.result
    = subst (λ (z : ℕ). AreMetBetween h mid.positions z c.later-low.result.0 c.uncovered-end.result) (sym at) c.in_ok-meet_between.ensures.met in
    let all =
    all_later h from c.later-low.result.0 c.uncovered-end.result c.later-low.result.1 old.positions old.queue.items mid.positions mid.queue.items
    c.later-low.ensures.pairs c.in_ok-meet_between.ensures.more met c.uncovered-end.ensures.met in
    rw (c.cover.ensures.positions, c.cover.ensures.queue)
    (reach_covered h mid.positions mid.covered mid.queue.items c.cover.new.self.covered c.in_ok-meet_between.ensures.reach
    (c.cover.ensures.covered c.in_ok-meet_between.ensures.reach.behind all))
