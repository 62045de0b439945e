use Rattle.tcc_clocks.proofs.NeededLemmas.{all_needed}
use Rattle.tcc_clocks.proofs.needed.needed_blocks.Goals as goal

pub returns-clause-needed : goal.returns-clause-needed
returns-clause-needed c =
    all_needed c.args.graph.now c.args.owners.now c.requires c.deref.result.now c.in_ok-needed.needed.items (rw c.deref.ensures.value c.in_ok-sources.ensures.long)
    (rw c.deref.ensures.value c.in_ok-sources.ensures.read) c.in_ok-needed.ensures.marked
