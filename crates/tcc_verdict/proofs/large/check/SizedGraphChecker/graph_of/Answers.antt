-- The history of a large snapshot, all read faults, or refused memory; of read faults the notes.
use Rattle.std.proofs.KnownBytes.{Appends-nil}
use Rattle.tcc_reads.specs.History.{History}
use Rattle.tcc_verdict.specs.private.LargeStages.{IsSizedHistory}
use Rattle.tcc_verdict.proofs.Checked.{refused, without_memory}
use Rattle.tcc_verdict.proofs.NotesLemmas.{memory_noted, refusal_noted}
use Rattle.tcc_verdict.proofs.large.check.SizedGraphChecker.graph_of.Goals as goal

pub returns-in_err-small-clause-notes : goal.returns-in_err-small-clause-notes
returns-in_err-small-clause-notes g c =
    memory_noted _ _ c.args.snapshot.now c.from_residual.result c.from_residual.ensures.1 (Appends-nil _)

pub returns-in_err-resolved-in-None-clause-made : goal.returns-in_err-resolved-in-None-clause-made
returns-in_err-resolved-in-None-clause-made g c =
    refused IsSizedHistory c.args.snapshot.now c.in_err-resolved-in-None.field-0.0 c.from_residual-in_err-resolved-in-None.result (rw (← c.in_err-resolved-in-None.ensures.resolved) at c.resolve_large.ensures) c.from_residual-in_err-resolved-in-None.ensures.1

pub returns-in_err-resolved-in-None-clause-notes : goal.returns-in_err-resolved-in-None-clause-notes
returns-in_err-resolved-in-None-clause-notes g c =
    refusal_noted _ _ c.args.snapshot.now History c.in_err-resolved-in-None.field-0.0 c.from_residual-in_err-resolved-in-None.result
    c.from_residual-in_err-resolved-in-None.ensures.1
    (rw (← c.in_err-resolved-in-None.ensures.resolved) at c.in_err-resolved-in-None.ensures.notes)

pub returns-in_err-graph-in-None-clause-made : goal.returns-in_err-graph-in-None-clause-made
returns-in_err-graph-in-None-clause-made g c = without_memory IsSizedHistory c.args.snapshot.now c.from_residual-in_err-graph-in-None.result c.from_residual-in_err-graph-in-None.ensures.1

pub returns-in_err-graph-in-None-clause-notes : goal.returns-in_err-graph-in-None-clause-notes
returns-in_err-graph-in-None-clause-notes g c =
    memory_noted _ _ c.args.snapshot.now c.from_residual-in_err-graph-in-None.result c.from_residual-in_err-graph-in-None.ensures.1
    (rw (← c.in_ok-resolved-in-None.ensures.resolved) at c.in_ok-resolved-in-None.ensures.notes)
