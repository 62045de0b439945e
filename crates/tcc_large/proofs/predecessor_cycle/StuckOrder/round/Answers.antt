use Rattle.std.proofs.Common.{ℕ, ◌≡◌, ◌-◌, ◌++◌, ◌∷◌, [], List, drop, length, replicate, sym, ap, subst, ◌∙◌, arith}
use Rattle.std.specs.Prelude.{slice_index}
use Rattle.std.proofs.lemmas.List.{length-replicate}
use Rattle.tcc_reads.specs.History.{count}
use Rattle.tcc_graph.specs.Levels.{Judged, judged}
use Rattle.tcc_large.specs.private.Retracing.{GoesRound}
use Rattle.tcc_large.proofs.Retraced.{IsTrail, none_set, trail_begins, trail_more, trail_room, trail_round}
use Rattle.tcc_large.proofs.predecessor_cycle.StuckOrder.round.Goals as goal

pub loop-position-init : goal.loop-position-init
loop-position-init c =
    let j : Judged = judged c.args.self.now.graph.now c.args.self.now.level in
    let at : ℕ = c.first_of_all-at.result in
    let cells = c.in_ok-positions.positions in
    let zeros : cells ≡ replicate c.count.result 0 = c.in_ok-positions.ensures in
    let long : length cells ≡ count c.args.self.now.graph.now = ap length zeros ∙ (length-replicate c.count.result 0 ∙ c.count.ensures.value) in
    let none : (v : ℕ) → slice_index cells v ≡ 0 = λ v. ap (λ z. slice_index z v) zeros ∙ none_set c.count.result v in
    let items : c.push.new.self.items ≡ at ∷ [] = c.in_ok-push.ensures.items ∙ ap (λ (z : List ℕ). z ++ at ∷ []) c.new-trail.ensures.items in
    (subst (λ (z : List ℕ). IsTrail j cells at 0 z) (sym items) (trail_begins j cells at long none c.first_of_all-at.ensures.0), c.first_of_all-at.ensures)

pub returns-then-before-gt0 : goal.returns-then-before-gt0
returns-then-before-gt0 c =
    let j : Judged = judged c.args.self.now.graph.now c.args.self.now.level in
    let l = c.loop-position in
    let tail : c.in_ok-split_off.field-0.items ≡ drop (slice_index l.positions l.at - 1) l.trail.items
    = c.in_ok-split_off.ensures.tail ∙ ap (λ (z : ℕ). drop (z - 1) l.trail.items) c.get-before.ensures in
    subst (λ (z : List ℕ). GoesRound j z) (sym tail)
    (trail_round j l.positions l.at l.position l.trail.items l.invariant.0 (omega (arith, c.get-before.ensures, c.if-before-gt0.true)))

pub loop-position-preserved : goal.loop-position-preserved
loop-position-preserved c =
    let j : Judged = judged c.args.self.now.graph.now c.args.self.now.level in
    let l = c.loop-position in
    let new : slice_index l.positions l.at ≡ 0 = omega (arith, c.get-before.ensures, c.if-before-gt0.false) in
    let left = c.in_ok-at.ensures.left in
    rw (c.set.ensures, c.in_ok-push-2.ensures.items)
    (trail_more j l.positions l.at l.position l.trail.items l.invariant.0 new c.in_ok-at.at left.0 c.in_ok-at.ensures.held, left)

pub unreachable-requires : goal.unreachable-requires
unreachable-requires c =
    let j : Judged = judged c.args.self.now.graph.now c.args.self.now.level in
    let l = c.loop-position in
    omega (arith, trail_room j l.positions l.at l.position l.trail.items l.invariant.0, c.loop-position-test.false, c.count-position-end.ensures.value)
