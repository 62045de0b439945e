use Rattle.tcc_survey.proofs.FindLemmas.{spans_in}
use Rattle.tcc_survey.proofs.scanning.ReadSweep.settle.Goals as goal

pub settle_each-requires-clause-spans : goal.settle_each-requires-clause-spans
settle_each-requires-clause-spans c =
    rw c.deref.ensures.value
    (spans_in c.args.self.now.block.graph.now c.requires.block.numbered c.args.self.now.block.owners.now c.requires.block.owned c.args.self.now.block.from c.block_bounds-bounds.result.0
    c.block_bounds-bounds.result.1 c.find_spans.new.spans.items c.block_bounds-bounds.ensures c.in_ok-find_spans.ensures)
