use Rattle.tcc_reads.specs.History.{History}
use Rattle.tcc_survey.proofs.FindLemmas.{spans_in}
use Rattle.tcc_survey.proofs.calling.call_block.Goals as goal

pub call_each-requires-clause-sweep : goal.call_each-requires-clause-sweep
call_each-requires-clause-sweep c =
    let h : History = c.args.block.now.graph.now in
    let is = c.requires.block in
    record {
      block = is;
      spans = rw c.deref.ensures.value
          (spans_in h is.numbered c.args.block.now.owners.now is.owned c.args.block.now.from c.block_bounds-bounds.result.0 c.block_bounds-bounds.result.1
          c.find_spans.new.spans.items c.block_bounds-bounds.ensures c.in_ok-find_spans.ensures);
    }
