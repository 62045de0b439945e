use Rattle.std.proofs.Common.{◌≡◌, ◌<◌, ◌∙◌, ℕ, get_or, length, refl, arith}
use Rattle.tcc_reads.specs.History.{count}
use Rattle.tcc_judge.proofs.SourceLemmas.{To, gaps_none, marked_more, marked_none, sources_more, to_more, to_nothing, to_same}
use Rattle.tcc_judge.proofs.sources.mark_sources.Goals.{then-lasts-place-gt0+in_ok-lower_readings, else-lasts-place-gt0}
use Rattle.tcc_judge.proofs.sources.mark_sources.Goals as goal

pub loop-place-init : goal.loop-place-init
loop-place-init c =
    let h = c.args.graph.now in
    let block = c.args.block.now in
    let order = c.args.order.now in
    let lasts = c.args.lasts.now in
    let none = to_nothing h block.owners.items block.from block.clocks order lasts in
    record {
      gaps = rw c.clear.ensures (gaps_none h (To h block.owners.items block.from block.clocks order lasts 0) (length c.args.gaps.now) c.requires.keys none);
      same = refl;
      marks = marked_none h block.owners.items block.from block.clocks order lasts c.args.marks.now;
    }

pub loop-place-preserved : goal.loop-place-preserved
loop-place-preserved c =
    let h = c.args.graph.now in
    let block = c.args.block.now in
    let order = c.args.order.now in
    let lasts = c.args.lasts.now in
    let place = c.loop-place.place in
    let inv = c.loop-place.invariant in
    let b : ℕ = get_or order place 0 in
    let below : b < count h = c.requires.ready.ordered.numbering.below place 0 c.loop-place-test.true in
    let marks = marked_more h block.owners.items block.from block.clocks order lasts place c.loop-place.gaps inv.gaps b refl (omega (arith, below, c.requires.ready.few))
    c.args.marks.now c.loop-place.marks c.mark_at.new.marks c.mark_at.ensures.each inv.marks in
    let same : length c.mark_at.new.marks ≡ length c.args.marks.now = c.mark_at.ensures.same ∙ inv.same in
    elim c.if-lasts-place-gt0.branch [
      | then-lasts-place-gt0+in_ok-lower_readings w ↦ rw w.gaps-is record {
        gaps = to_more h block.owners.items block.from block.clocks order lasts place c.loop-place.gaps w.lower_readings.new.gaps (omega (arith, w.if-lasts-place-gt0.true))
            w.in_ok-lower_readings.ensures inv.gaps;
        same = same;
        marks = marks;
      }
      | else-lasts-place-gt0 w ↦ rw w.gaps-is record {
        gaps = to_same h block.owners.items block.from block.clocks order lasts place c.loop-place.gaps (omega (arith, w.if-lasts-place-gt0.false)) inv.gaps;
        same = same;
        marks = marks;
      }
    ]

pub returns-clause-marked : goal.returns-clause-marked
returns-clause-marked c = λ positions stale are w.
    let ready = c.requires.ready in
    let block = c.args.block.now in
    sources_more c.args.graph.now c.args.order.now positions ready.ordered ready.onward are block.owners.items ready.owners block.from block.clocks c.requires.clocks ready.few
    c.args.lasts.now stale w c.args.marks.now c.loop-place.marks c.loop-place.place (omega arith) c.loop-place.invariant.same c.requires.so_far
    c.loop-place.invariant.marks
