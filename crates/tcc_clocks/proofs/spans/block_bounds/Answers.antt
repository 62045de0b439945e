use Rattle.tcc_clocks.proofs.SpanLemmas.{bounded}
use Rattle.tcc_clocks.proofs.spans.block_bounds.Goals as goal

pub returns : goal.returns
returns c =
    bounded c.args.owners.now c.args.from c.count_below.result c.count_below-2.result c.count_below.ensures c.count_below-2.ensures
