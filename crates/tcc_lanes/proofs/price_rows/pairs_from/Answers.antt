use Rattle.std.proofs.Common.{◌≡◌, ◌<◌, ◌↔◌, ℕ, length, arith}
use Rattle.tcc_reads.specs.History.{count}
use Rattle.tcc_txn.proofs.Lists.{whole}
use Rattle.tcc_lanes.specs.declared.words.TheConstants.{LANES}
use Rattle.tcc_lanes.specs.private.Marks.{AreMarksOf, IsAt, IsLedTo}
use Rattle.tcc_lanes.proofs.PriceRows.{pairs_told}
use Rattle.tcc_lanes.proofs.price_rows.pairs_from.Goals as goal

pub returns : goal.returns
returns c =
    let h = c.args.graph.now in
    let starts = c.args.starts.now in
    let begun = c.in_ok-begun.begun.items in
    let pairs = c.in_ok-pairs.pairs in
    let after = c.spread.new.found in
    let marks : AreMarksOf (count h) starts (length starts) begun = rw c.count-count.ensures.value at c.in_ok-begun.ensures in
    let same : length after ≡ length pairs.items = omega (arith, c.spread.ensures.same, c.in_ok-pairs.ensures.len, c.count-count.ensures.value, pairs.ok.0) in
    let each : (v i : ℕ) → v < count h → i < LANES → IsAt after v i ↔ IsLedTo h begun v i = rw c.deref.ensures.value at c.spread.ensures.each in
    rw (whole after pairs.items pairs.len same pairs.ok.0) (record {
      long = c.spread.ensures.same;
      each = λ v i below m.
          let here = each v i below (omega (arith, m, c.requires.lanes)) in
          let told = pairs_told h starts begun c.requires.inside c.requires.lanes marks v i m in
          ((λ is. told.0 (here.0 is)), (λ is. here.1 (told.1 is)));
    })
