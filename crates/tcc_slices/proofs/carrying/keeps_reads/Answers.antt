use Rattle.std.proofs.Common.{◌≡◌, ◌<◌, ℕ, List, [], get_or, length, arith, refl}
use Rattle.std.specs.Prelude.{◌↔◌}
use Rattle.std.proofs.lemmas.Bool.{false≢true, iff_false}
use Rattle.std.proofs.lemmas.List.{get_or_read}
use Rattle.tcc_reads.specs.History.{History}
use Rattle.tcc_graph.specs.Relations.{IsReadsPair}
use Rattle.tcc_slices.specs.private.Carrying.{carry}
use Rattle.tcc_slices.proofs.CarriedOver.{kept_all, kept_more, zip_in}
use Rattle.tcc_slices.proofs.carrying.keeps_reads.Goals as goal

-- the pair that is looked for is that of the reading at an index
looked_for : (numbers : List ℕ) (large : History) (a : ℕ) (rs : List ℕ) (ks : List (List ℕ)) (k from to : ℕ) (key : List ℕ) → from ≡ carry numbers a
    → to ≡ carry numbers (get_or rs k 0) → key ≡ get_or ks k key → k < length rs → length rs ≡ length ks
    → IsReadsPair large from to key ↔ IsReadsPair large (carry numbers a) (carry numbers (get_or rs k 0)) (get_or ks k [])
looked_for numbers large a rs ks k from to key begins ends is inside long =
    let read : key ≡ get_or ks k [] = get_or_read ks k key (omega (arith, inside, long)) is [] in
    (λ pair. rw (begins, ends, read) at pair, λ pair. rw (begins, ends, read) pair)

pub loop-index-preserved : goal.loop-index-preserved
loop-index-preserved c =
    let same =
    looked_for c.args.numbers.now c.args.large.now c.args.source c.readings.result.0.now c.readings.result.1.now c.loop-index.index c.carried.result
    c.carried-in-loop-index.result c.index-keys-index.result c.carried.ensures c.carried-in-loop-index.ensures c.index-keys-index.is c.loop-index-test.true
    c.readings.ensures.long in
    kept_more c.args.numbers.now c.args.large.now c.args.source c.readings.result.0.now c.readings.result.1.now c.loop-index.index c.loop-index.invariant
    (same.0 (c.is_link.ensures.0 c.if-not-is_link.false))

pub returns : goal.returns
returns c = (
  λ is.
      kept_all c.args.numbers.now c.args.small.now c.args.large.now c.args.source c.readings.result.0.now c.readings.result.1.now c.loop-index.index
      (omega (arith, c.loop-index-test.false, c.loop-index.auto.index-end)) c.readings.ensures.each c.loop-index.invariant,
  λ kept. refl,
)

pub returns-then-not-is_link : goal.returns-then-not-is_link
returns-then-not-is_link c =
    let index = c.loop-index.index in
    let rs = c.readings.result.0.now in
    let ks = c.readings.result.1.now in
    let same =
    looked_for c.args.numbers.now c.args.large.now c.args.source rs ks index c.carried.result c.carried-in-loop-index.result c.index-keys-index.result
    c.carried.ensures c.carried-in-loop-index.ensures c.index-keys-index.is c.loop-index-test.true c.readings.ensures.long in
    let there = (c.readings.ensures.each (get_or rs index 0) (get_or ks index [])).0 (zip_in rs ks index c.loop-index-test.true c.readings.ensures.long) in
    (λ is. absurd (false≢true is), λ kept. absurd (iff_false c.is_link.ensures c.if-not-is_link.true (same.1 (kept (get_or rs index 0) (get_or ks index []) there))))
