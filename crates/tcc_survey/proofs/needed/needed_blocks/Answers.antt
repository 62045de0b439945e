use Rattle.tcc_graph.specs.Levels.{judged}
use Rattle.tcc_survey.proofs.NeededLemmas.{all_needed}
use Rattle.tcc_survey.proofs.needed.needed_blocks.Goals as goal

pub mark_blocks-requires-clause-sources : goal.mark_blocks-requires-clause-sources
mark_blocks-requires-clause-sources c = rw c.deref.ensures.value c.in_ok-sources.ensures.long

pub returns-clause-needed : goal.returns-clause-needed
returns-clause-needed c = λ level.
    all_needed (judged c.args.graph.now level) c.args.owners.now c.requires.owners c.args.reads.now c.requires.reads c.deref.result.now
    c.in_ok-needed.needed.items (rw c.deref.ensures.value c.in_ok-sources.ensures) c.in_ok-needed.ensures.marked
