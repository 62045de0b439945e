-- Readers are marked, and then what comes later in session order.
use Rattle.std.proofs.Common.{◌≡◌, ◌⊎◌, length, rules, ◌∙◌}
use Rattle.tcc_reads.specs.History.{count}
use Rattle.tcc_txn.proofs.Lists.{whole}
use Rattle.tcc_check.specs.private.Weights.{IsLeastRow, IsLowered}
use Rattle.tcc_check.specs.private.WeightsFrom.{BetweenWeighs, ReadWeighs}
use Rattle.tcc_check.proofs.Bounds.{lowered_row}
use Rattle.tcc_check.proofs.LinksFrom.{causal-weights}
use Rattle.tcc_check.proofs.links_from.pair_weights.Goals as goal

pub returns : goal.returns
returns c =
    let h = c.args.graph.now in
    let u = c.args.start in
    let old = c.in_ok-weights.weights.items in
    let new = c.mark_between.new.weights in
    let first = c.later-first.result.0 in
    let end = c.later-first.result.1 in
    let lowered : IsLowered (BetweenWeighs first end) old new = rw (← c.deref_mut.ensures.value) c.mark_between.ensures in
    let long : length new ≡ count h = lowered.long ∙ c.in_ok-weights.ensures.long in
    let least : IsLeastRow (λ v w. ReadWeighs h u v w ⊎ BetweenWeighs first end v w) new =
    lowered_row (ReadWeighs h u) (BetweenWeighs first end) old new c.in_ok-weights.ensures.least lowered in
    rw (whole new old c.in_ok-weights.weights.len lowered.long (search rules)) (record {
      long = long;
      none = causal-weights h u first end new long c.later-first.ensures.pairs least;
    })
