use Rattle.std.proofs.Common.{[], ◌∙◌}
use Rattle.std.proofs.lemmas.List.{get_or_read}
use Rattle.tcc_lanes.proofs.buckets.take.Goals as goal

pub returns-clause-taken : goal.returns-clause-taken
returns-clause-taken c =
    c.replace.ensures.value ∙ get_or_read c.args.buckets.now.items c.args.cost c.index_mut.result.now c.requires c.index_mut.ensures.value []
