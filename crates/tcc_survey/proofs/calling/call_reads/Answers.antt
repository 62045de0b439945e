use Rattle.tcc_graph.specs.Levels.{Judged, judged}
use Rattle.tcc_survey.specs.private.Settled.{AreFound, AreReads}
use Rattle.tcc_survey.proofs.CallingLemmas.{chains_called, chosen_contradicted, chosen_reads}
use Rattle.tcc_survey.proofs.calling.call_reads.Goals as goal

pub find_least-requires-clause-reads : goal.find_least-requires-clause-reads
find_least-requires-clause-reads g c = λ k l. (c.requires.reads.each k l).reading

pub call_blocks-requires-clause-chosen : goal.call_blocks-requires-clause-chosen
call_blocks-requires-clause-chosen g c =
    let j : Judged = judged c.args.graph.now c.args.level in
    let all : AreReads j.history c.args.reads.now = λ k l. (c.requires.reads.each k l).reading in
    rw (c.deref-3.ensures.value) (chosen_reads j c.args.reads.now c.deref.result.now (rw c.deref.ensures.value c.in_ok-found.ensures) c.in_ok-chosen.chosen.items
    c.in_ok-chosen.ensures all)

pub call_blocks-requires-clause-others : goal.call_blocks-requires-clause-others
call_blocks-requires-clause-others g c =
    let j : Judged = judged c.args.graph.now c.args.level in
    rw (c.deref-3.ensures.value) (chosen_contradicted j c.args.reads.now c.deref.result.now (rw c.deref.ensures.value c.in_ok-found.ensures) c.in_ok-chosen.chosen.items
    c.in_ok-chosen.ensures)

pub call_blocks-requires-clause-called : goal.call_blocks-requires-clause-called
call_blocks-requires-clause-called g c =
    let j : Judged = judged c.args.graph.now c.args.level in
    let found : AreFound j c.args.reads.now c.deref-2.result.now = rw c.deref-2.ensures.value c.in_ok-found.ensures in
    rw (c.deref_mut.ensures.value, c.in_ok-called.ensures) (chains_called j c.args.reads.now c.deref-2.result.now found)
