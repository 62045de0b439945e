use Rattle.std.proofs.Common.{◌≡◌, ◌<◌, ◌⊎◌, ◌↔◌, ℕ, length, get_or}
use Rattle.std.specs.List.{Contains}
use Rattle.tcc_lanes.specs.declared.words.TheConstants.{LANES}
use Rattle.tcc_lanes.specs.private.Marks.{IsAt}
use Rattle.tcc_txn.proofs.Lists.{whole}
use Rattle.tcc_lanes.proofs.MarkLemmas.{more_writers, written_by}
use Rattle.tcc_lanes.proofs.marking.writer_marks.Goals as goal

pub loop-lane-preserved : goal.loop-lane-preserved
loop-lane-preserved c =
    let h = c.args.graph.now in
    let old = c.loop-lane.marks.items in
    let new = c.mark_each.new.marks in
    let before : c.deref_mut.result.now ≡ old = c.deref_mut.ensures.value in
    let same : length new ≡ length old = rw before at c.mark_each.ensures.same in
    let each : (k i : ℕ) → k < length old → i < LANES → IsAt new k i ↔ (IsAt old k i ⊎ (Contains c.writes_at.result.now k × (i ≡ c.loop-lane.lane)))
    = rw before at c.mark_each.ensures.each in
    rw (whole new old c.loop-lane.marks.len same c.loop-lane.marks.ok.0)
    (more_writers h c.args.writers.now c.loop-lane.lane c.writes_at.result.now old new
    (written_by h (get_or c.args.writers.now c.loop-lane.lane 0) c.writes_at.result.now c.writes_at.ensures.value c.writes_at.ensures.within
    (c.requires.some c.loop-lane.lane 0 c.loop-lane-test.true)) c.loop-lane.invariant same each)
