use Rattle.std.proofs.Common.{slice_index}
use Rattle.tcc_lanes.proofs.FeedbackLemmas.{AreMarkedTo}
use Rattle.tcc_lanes.proofs.feedback.feedback_vertices.Given as goal

abbrev pub invariant-loop-from : goal.invariant-loop-from
invariant-loop-from l = AreMarkedTo l.rows (λ v. slice_index l.left.items v) l.from l.marks.items
