use Rattle.std.proofs.Common.{List, subst}
use Rattle.tcc_watch.specs.declared.lines.Line.{Line}
use Rattle.tcc_watch.specs.private.Gaps.{AreGaps}
use Rattle.tcc_watch.proofs.GapLemmas.{gap_faults}
use Rattle.tcc_watch.proofs.arrivals.Arrivals.waiting_verdict.Goals as goal

pub returns-then-are_gaps : goal.returns-then-are_gaps
returns-then-are_gaps c s level are =
    gap_faults s c.args.self.now are
    (subst (λ (z : List Line). AreGaps z c.args.self.now.kept.values) c.deref.ensures.value (c.are_gaps.ensures c.if-are_gaps.true))
