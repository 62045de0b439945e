use Rattle.std.proofs.Common.{◌≡◌, ◌<◌, ◌+◌, ◌-◌, ℕ, length, get_or, refl, subst, ◌∙◌, arith}
use Rattle.std.specs.Prelude.{max}
use Rattle.tcc_judge.specs.private.Blocks.{IsAt}
use Rattle.tcc_judge.specs.private.Contradicted.{IsBehindTo, IsGreatestOf}
use Rattle.tcc_judge.proofs.BlockLemmas.{wide_at}
use Rattle.tcc_judge.proofs.ContradictedLemmas.{AreNotedFrom, noted_all, noted_more, noted_none, to_read}
use Rattle.tcc_judge.proofs.contradicted.note_block.Goals as goal

pub loop-place-init : goal.loop-place-init
loop-place-init c = record {
  some = c.requires.at.ready.ordered.some;
  same = refl;
  at = c.requires.at;
  lasts = noted_none c.args.graph.now c.args.order.now c.args.positions.now c.args.block.now.from (length c.args.order.now) c.args.lasts.now c.args.stale.now
      (omega arith) c.requires.so_far;
}

pub loop-place-preserved : goal.loop-place-preserved
loop-place-preserved c =
    let h = c.args.graph.now in
    let order = c.args.order.now in
    let positions = c.args.positions.now in
    let from = c.args.block.now.from in
    let lasts = c.loop-place.lasts in
    let inv = c.loop-place.invariant in
    let one = c.last_contradicted-last.result in
    let place : ℕ = c.loop-place.place - 1 in
    let was : c.loop-place.place ≡ place + 1 = omega arith in
    let noted : AreNotedFrom h order positions from (place + 1) lasts = subst (λ (p : ℕ). AreNotedFrom h order positions from p lasts) was inv.lasts in
    let last : IsGreatestOf (IsBehindTo h order positions from (place + 1) (get_or order place 0)) one = rw inv.same at c.last_contradicted-last.ensures in
    let inside : place < length order = omega arith in
    let result : c.max.result ≡ max one (get_or lasts place 0) = c.max.ensures in
    record {
      some = omega arith;
      same = c.go_back.ensures.from ∙ inv.same;
      at = c.in_ok-go_back.ensures.at;
      lasts = rw result (noted_more h order positions from place one lasts (omega arith) inside
          (to_read h order inv.at.ready.ordered.numbering from place (get_or order place 0) inside refl positions one last) noted);
    }

pub mark_stale-requires-clause-wide : goal.mark_stale-requires-clause-wide
mark_stale-requires-clause-wide c = wide_at c.args.graph.now c.args.order.now c.loop-place.place c.loop-place.block c.loop-place.invariant.at

pub mark_stale-requires-clause-some : goal.mark_stale-requires-clause-some
mark_stale-requires-clause-some c = let ordered = c.loop-place.invariant.at.ready.ordered in omega (arith, ordered.numbering.below 0 0 ordered.some)

pub returns-clause-noted : goal.returns-clause-noted
returns-clause-noted c =
    let inv = c.loop-place.invariant in
    let ordered = inv.at.ready.ordered in
    let one : c.loop-place.place ≡ 1 = omega (arith, inv.some) in
    let at : IsAt c.args.graph.now c.args.order.now 1 c.loop-place.block
    = subst (λ (p : ℕ). IsAt c.args.graph.now c.args.order.now p c.loop-place.block) one inv.at in
    noted_all c.args.graph.now c.args.order.now c.args.positions.now c.args.block.now.from ordered.numbering ordered.some ordered.init c.loop-place.place
    c.loop-place.lasts c.args.stale.now c.mark_stale.new.stale one inv.lasts c.requires.so_far.keys_long c.mark_stale.ensures.same
    (λ k l. c.requires.so_far.of_key k l) (rw inv.same at (c.mark_stale.ensures.each c.args.order.now at))

pub returns-clause-at : goal.returns-clause-at
returns-clause-at c =
    let inv = c.loop-place.invariant in
    let one : c.loop-place.place ≡ 1 = omega (arith, inv.some) in
    subst (λ (p : ℕ). IsAt c.args.graph.now c.args.order.now p c.loop-place.block) one inv.at
