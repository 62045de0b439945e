-- Where nothing is linked, the readers from the start are marked.
use Rattle.std.proofs.Common.{◌≡◌, length, rules, ap, ◌∙◌}
use Rattle.std.proofs.lemmas.List.{length-replicate}
use Rattle.tcc_reads.specs.History.{count}
use Rattle.tcc_txn.proofs.Lists.{whole}
use Rattle.tcc_check.specs.private.Weights.{unlinked, IsLowered}
use Rattle.tcc_check.specs.private.WeightsFrom.{MarkWeighs, ReadWeighs}
use Rattle.tcc_check.proofs.LinksFrom.{bare-lowered, marks-reads, readers-below, readers-of}
use Rattle.tcc_check.proofs.links_from.read_weights.Goals as goal

pub returns : goal.returns
returns c =
    let h = c.args.graph.now in
    let bare = c.in_ok-weights.weights.items in
    let new = c.mark.new.weights in
    let marked : IsLowered (MarkWeighs c.readings_at.result.0.now) bare new = rw (← c.deref_mut.ensures.value) c.mark.ensures in
    let lowered =
    marks-reads h c.args.start c.readings_at.result.0.now bare new
    (readers-of h c.args.start c.readings_at.result.0.now c.readings_at.result.1.now c.readings_at.ensures) marked in
    let all = bare-lowered (count h) (ReadWeighs h c.args.start) bare new c.in_ok-weights.ensures lowered in
    rw (whole new bare c.in_ok-weights.weights.len marked.long (search rules)) (record { long = all.0; least = all.1 })

pub mark-requires : goal.mark-requires
mark-requires c =
    let h = c.args.graph.now in
    let long : length c.deref_mut.result.now ≡ count h =
    ap length (c.deref_mut.ensures.value ∙ c.in_ok-weights.ensures) ∙ length-replicate (count h) unlinked in
    rw long (readers-below h c.args.start c.readings_at.result.0.now c.readings_at.result.1.now c.readings_at.ensures)
