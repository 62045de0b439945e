use Rattle.std.proofs.Common.{ℕ, ◌≡◌, ◌<◌, length, ap, ◌∙◌, arith}
use Rattle.std.specs.Prelude.{slice_index_or}
use Rattle.std.proofs.lemmas.List.{get_or_read}
use Rattle.tcc_large.specs.private.Reaching.{number_at, before_at}
use Rattle.tcc_large.proofs.Reached.{pair_moved}
use Rattle.tcc_large.proofs.reachability.Reach.walk.Goals as goal

pub step-requires : goal.step-requires
step-requires c =
    let h = c.args.graph.now in
    let queue = c.args.self.now.queue.items in
    let at = c.loop-at.at in
    let led = c.requires.reach.led at c.loop-at-test.true c.loop-at.invariant.inside in
    let here : c.index.result.now ≡ slice_index_or queue at (0, 0)
    = get_or_read queue at c.index.result.now c.loop-at.invariant.inside c.index.ensures (0, 0) in
    let before : c.index.result.now.1 ≡ before_at queue at = ap (λ (p : ℕ × ℕ). p.1) here in
    let inside : c.index.result.now.1 < length queue = omega (arith, before, led.0, c.loop-at.invariant.inside) in
    let there : c.index-in-loop-at.result.now ≡ slice_index_or queue c.index.result.now.1 (0, 0)
    = get_or_read queue c.index.result.now.1 c.index-in-loop-at.result.now inside c.index-in-loop-at.ensures (0, 0) in
    let from : c.index-in-loop-at.result.now.0 ≡ number_at queue (before_at queue at) = ap (λ (p : ℕ × ℕ). p.0) there ∙ ap (number_at queue) before in
    pair_moved h c.index-in-loop-at.result.now.0 (number_at queue (before_at queue at)) c.index.result.now.0 (number_at queue at) from
    (ap (λ (p : ℕ × ℕ). p.0) here) led.1
