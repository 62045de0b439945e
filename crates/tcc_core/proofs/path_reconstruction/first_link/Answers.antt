use Rattle.std.proofs.Common.{sym}
use Rattle.std.proofs.lemmas.Result.{IfOk-weaker}
use Rattle.tcc_core.proofs.LinkChoiceLemmas.{reads_first, reason_first}
use Rattle.tcc_core.proofs.path_reconstruction.first_link.Goals as goal
use Rattle.tcc_graph.specs.Levels.{judged}

pub returns-in-Some : goal.returns-in-Some
returns-in-Some c =
    reads_first c.requires.from c.requires.to (rw c.deref.ensures.value at (sym c.if-session.ensures))
    (rw c.reads_from.ensures at c.in-Some.ensures)

pub returns : goal.returns
returns c =
    IfOk-weaker c.reason.result _ _ (λ found is. reason_first (judged c.args.graph.now c.args.near.now.level) c.args.from c.args.to
    (rw c.deref.ensures.value at (sym c.if-session.ensures)) (rw c.reads_from.ensures at c.in_default.ensures) found is) c.reason.ensures
