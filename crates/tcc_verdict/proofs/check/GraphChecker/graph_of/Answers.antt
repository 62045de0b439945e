-- The history, all read faults, or refused memory; of read faults the notes.
use Rattle.std.proofs.Common.{inl, ◌∙◌}
use Rattle.tcc_reads.specs.History.{History}
use Rattle.tcc_verdict.specs.private.Stages.{IsHistory}
use Rattle.tcc_verdict.proofs.Checked.{refused, without_memory}
use Rattle.tcc_verdict.proofs.NotesLemmas.{memory_noted, refusal_noted}
use Rattle.tcc_verdict.proofs.check.GraphChecker.graph_of.Goals as goal

pub returns-in_err-resolved-clause-made : goal.returns-in_err-resolved-clause-made
returns-in_err-resolved-clause-made g c =
    refused IsHistory c.args.snapshot.now c.in_err-resolved.field-0.0 c.from_residual.result (rw (← c.in_err-resolved.ensures.resolved) at c.resolve.ensures) c.from_residual.ensures.1

pub returns-in_err-resolved-clause-notes : goal.returns-in_err-resolved-clause-notes
returns-in_err-resolved-clause-notes g c =
    refusal_noted _ _ c.args.snapshot.now History c.in_err-resolved.field-0.0 c.from_residual.result c.from_residual.ensures.1
    (rw (← c.in_err-resolved.ensures.resolved) at c.in_err-resolved.ensures.notes)

pub returns-in_err-graph-clause-made : goal.returns-in_err-graph-clause-made
returns-in_err-graph-clause-made g c = without_memory IsHistory c.args.snapshot.now c.from_residual-in_err-graph.result c.from_residual-in_err-graph.ensures.1

pub returns-in_err-graph-clause-notes : goal.returns-in_err-graph-clause-notes
returns-in_err-graph-clause-notes g c =
    memory_noted _ _ c.args.snapshot.now c.from_residual-in_err-graph.result c.from_residual-in_err-graph.ensures.1
    (rw (← c.in_ok-resolved.ensures.resolved) at c.in_ok-resolved.ensures.notes)

pub returns-clause-made : goal.returns-clause-made
returns-clause-made g c =
    let whole = rw (← c.in_ok-resolved.ensures.resolved) at c.resolve.ensures in
    inl (whole.0, c.in_ok-graph.ensures ∙ whole.1)

pub returns-clause-notes : goal.returns-clause-notes
returns-clause-notes g c = rw (← c.in_ok-resolved.ensures.resolved) at c.in_ok-resolved.ensures.notes
