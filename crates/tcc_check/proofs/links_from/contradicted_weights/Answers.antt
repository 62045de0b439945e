-- Where nothing is linked, the weights of what the start contradicts are lowered.
use Rattle.std.proofs.Common.{rules, ap, ◌∙◌, length}
use Rattle.std.proofs.lemmas.List.{length-replicate}
use Rattle.tcc_reads.specs.History.{count}
use Rattle.tcc_txn.proofs.Lists.{whole}
use Rattle.tcc_check.specs.private.Weights.{unlinked, IsLowered}
use Rattle.tcc_check.specs.private.WeightsFrom.{ContradictsBy}
use Rattle.tcc_check.proofs.LinksFrom.{bare-lowered}
use Rattle.tcc_check.proofs.links_from.contradicted_weights.Goals as goal

pub returns : goal.returns
returns c =
    let weighs = ContradictsBy c.args.graph.now c.args.row.now c.args.start in
    let bare = c.in_ok-weights.weights.items in
    let new = c.lower_contradicted.new.weights in
    let lowered : IsLowered weighs bare new = rw (← c.deref_mut.ensures.value) c.lower_contradicted.ensures in
    let all = bare-lowered (count c.args.graph.now) weighs bare new c.in_ok-weights.ensures lowered in
    rw (whole new bare c.in_ok-weights.weights.len lowered.long (search rules)) (record { long = all.0; least = all.1 })

pub lower_contradicted-requires-clause-weights : goal.lower_contradicted-requires-clause-weights
lower_contradicted-requires-clause-weights c =
    ap length (c.deref_mut.ensures.value ∙ c.in_ok-weights.ensures) ∙ length-replicate (count c.args.graph.now) unlinked
