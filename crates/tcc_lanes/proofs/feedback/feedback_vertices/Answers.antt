use Rattle.std.proofs.Common.{◌≡◌, ◌≢◌, ◌<◌, ◌≤◌, ◌↔◌, ◌⊎◌, ℕ, [], length, get_or, arith}
use Rattle.std.specs.Prelude.{slice_index}
use Rattle.std.proofs.lemmas.List.{get_or_read}
use Rattle.tcc_txn.proofs.Lists.{whole}
use Rattle.tcc_lanes.specs.declared.pricing.TheConstants.{NONE}
use Rattle.tcc_lanes.specs.private.Feedback.{IsMarked}
use Rattle.tcc_lanes.specs.private.Pricing.{price_of}
use Rattle.tcc_lanes.proofs.FeedbackLemmas.{marked_all, marked_more, marked_none}
use Rattle.tcc_lanes.proofs.feedback.feedback_vertices.Goals as goal

pub loop-from-init : goal.loop-from-init
loop-from-init c =
    rw (c.in_ok-marks.ensures.items_if_clones_equal (λ y e. e)) (marked_none c.args.rows.now (λ v. slice_index c.in_ok-left.left.items v))

pub loop-from-preserved : goal.loop-from-preserved
loop-from-preserved c =
    let rows = c.args.rows.now in
    let left = c.in_ok-left.left.items in
    let now = c.loop-from in
    let from = now.from in
    let old = now.marks.items in
    let new = c.mark_back.new.marks in
    let turn : c.index.result.now ≡ get_or left from 0
    = get_or_read left from c.index.result.now (omega (arith, c.loop-from-test.true, c.in_ok-left.ensures)) c.index.ensures 0 in
    let row : c.index-rows-from.result ≡ get_or rows from [] = get_or_read rows from c.index-rows-from.result c.loop-from-test.true c.index-rows-from.is [] in
    let same : length new ≡ length old = rw c.deref_mut.ensures.value at c.mark_back.ensures.same in
    let each : (v : ℕ) → v < length old → IsMarked new v ↔ (IsMarked old v ⊎ ((price_of rows from v ≢ NONE) × (get_or left from 0 ≤ get_or left v 0)))
    = rw (c.deref.ensures.value, c.in_ok-prices.ensures, c.deref-in-loop-from.ensures.value, c.deref_mut.ensures.value, turn, row) at c.mark_back.ensures.each in
    rw (whole new old now.marks.len same now.marks.ok.0)
    (marked_more rows (λ v. slice_index left v) from old new c.loop-from-test.true same each now.invariant)

pub returns : goal.returns
returns c =
    marked_all c.args.rows.now (λ v. slice_index c.in_ok-left.left.items v) c.loop-from.from c.loop-from.marks.items c.loop-from-test.false c.loop-from.invariant
