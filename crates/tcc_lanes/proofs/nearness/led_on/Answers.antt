use Rattle.std.proofs.Common.{◌≡◌, ◌<◌, ◌↔◌, ℕ, length, arith}
use Rattle.tcc_reads.specs.History.{count}
use Rattle.tcc_txn.proofs.Lists.{whole}
use Rattle.tcc_lanes.specs.declared.words.TheConstants.{LANES}
use Rattle.tcc_lanes.specs.private.Marks.{IsAt, IsLedTo}
use Rattle.tcc_lanes.proofs.NearnessLemmas.{led_told}
use Rattle.tcc_lanes.proofs.nearness.led_on.Goals as goal

pub returns-clause-each : goal.returns-clause-each
returns-clause-each c =
    let h = c.args.graph.now in
    let lasts = c.args.lasts.now in
    let marks = c.in_ok-marks.marks.items in
    let found = c.in_ok-found.found in
    let after = c.spread.new.found in
    let same : length after ≡ length found.items = omega (arith, c.spread.ensures.same, c.in_ok-found.ensures.len, c.count.ensures.value, found.ok.0) in
    let each : (v i : ℕ) → v < count h → i < LANES → IsAt after v i ↔ IsLedTo h marks v i = rw c.deref-2.ensures.value at c.spread.ensures.each in
    rw (whole after found.items found.len same found.ok.0) (λ v below.
    let here = each v 0 below (omega arith) in
    let told = led_told h lasts marks (length lasts) c.requires c.in_ok-marks.ensures v in
    ((λ is. told.0 (here.0 is)), (λ is. here.1 (told.1 is))))
