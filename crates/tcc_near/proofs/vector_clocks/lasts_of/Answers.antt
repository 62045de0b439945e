use Rattle.std.proofs.Common.{◌≡◌, ◌<◌, ℕ, ◌∙◌, length, slice_index, replicate, arith, rules, refl, take_at, sym}
use Rattle.tcc_reads.specs.History.{count, place}
use Rattle.tcc_graph.specs.Tables.{row_of}
use Rattle.tcc_near.specs.private.ClockRows.{raised}
use Rattle.tcc_near.proofs.ClockLemmas.{lasts_at_start, lasts_kept, lasts_raised, lasts_whole}
use Rattle.tcc_near.proofs.vector_clocks.lasts_of.Goals as goal
use Rattle.tcc_near.proofs.vector_clocks.lasts_of.Goals.{in-Some, in_default}

pub loop-b-init : goal.loop-b-init
loop-b-init c =
    let zeros : c.in_ok-lasts.lasts.items ≡ replicate (count c.args.graph.now) 0 = search rules in
    rw zeros (lasts_at_start c.args.graph.now c.args.session (count c.args.graph.now) refl)

pub loop-b-preserved : goal.loop-b-preserved
loop-b-preserved c =
    let h = c.args.graph.now in
    let old = c.loop-b.lasts.items in
    let n = c.loop-b.b in
    let inv = c.loop-b.invariant in
    elim c.match-place_in.branch [
      | in-Some w ↦ (
          let is = w.in-Some.ensures in
          let new = w.raise.new.lasts in
          let same : length new ≡ length old = search rules in
          let long : c.loop-b.lasts.len ≡ length old = search rules in
          let each : (t : ℕ) → t < length old → slice_index new t ≡ raised (place h n) (slice_index (row_of c.args.near.now.rows n) t) (slice_index old t) =
          rw (w.deref_mut.ensures.value, w.row.ensures.value, is.1) at w.raise.ensures.each in
          rw (w.lasts-is, take_at new _ c.loop-b.lasts.len (same ∙ sym long))
          (lasts_raised h c.args.near.now c.args.session n old new c.requires inv (omega arith) (omega (arith, c.count-b-end.ensures.value)) is.0 same each)
          )
      | in_default w ↦ rw w.lasts-is (lasts_kept h c.args.session n old inv w.in_default.ensures)
    ]

pub returns : goal.returns
returns c =
    rw c.new.ensures (lasts_whole c.args.graph.now c.args.session c.loop-b.b c.loop-b.lasts.items
    (omega (arith, c.loop-b-test.false, c.count-b-end.ensures.value)) c.loop-b.invariant)
