use Rattle.std.proofs.Common.{rules, ℕ, true, ◌≡◌, length, set, slice_index, sym, subst, ◌∙◌, arith}
use Rattle.std.specs.Prelude.{slice_index_or}
use Rattle.std.proofs.lemmas.List.{get_or_read}
use Rattle.tcc_graph.specs.Relations.{IsCausalPair, causal_pair}
use Rattle.tcc_graph.proofs.Pairs.{pair_kinds}
use Rattle.tcc_large.specs.private.Reaching.{number_at}
use Rattle.tcc_large.proofs.Reached.{reach_room, reach_more}
use Rattle.tcc_large.proofs.reachability.Reach.meet.Goals as goal

pub overflow_cast-len : goal.overflow_cast-len
overflow_cast-len c =
    let long : c.len.result ≡ length c.args.self.now.queue.items = search rules in
    omega (arith, long, reach_room c.args.graph.now c.args.self.now.positions c.args.self.now.covered c.args.self.now.queue.items c.requires.reach, c.requires.reach.few)

pub returns-clause-reach : goal.returns-clause-reach
returns-clause-reach c =
    let h = c.args.graph.now in
    let positions = c.args.self.now.positions in
    let queue = c.args.self.now.queue.items in
    let long : c.len.result ≡ length queue = search rules in
    let new : slice_index positions c.args.number ≡ 0 = omega (arith, c.get.ensures, c.if-get-gt0.false) in
    let here : c.index.result.now ≡ slice_index_or queue c.args.position (0, 0) = get_or_read queue c.args.position c.index.result.now c.requires.position c.index.ensures (0, 0) in
    let is : causal_pair h c.index.result.now.0 c.args.number ≡ true = sym c.causal.ensures ∙ c.if-not-causal.false in
    let pair : IsCausalPair h (number_at queue c.args.position) c.args.number
    = subst (λ (z : ℕ × ℕ). IsCausalPair h z.0 c.args.number) here (pair_kinds h c.index.result.now.0 c.args.number is) in
    let noted : c.set.new.self ≡ set positions c.args.number (length queue) = search rules in
    rw (noted, c.in_ok-push.ensures.items) (reach_more h positions c.args.self.now.covered queue c.args.position c.args.number c.requires.reach c.requires.position c.requires.number new pair)
