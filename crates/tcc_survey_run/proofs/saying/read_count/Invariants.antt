use Rattle.std.proofs.Common.{◌≡◌, length, take, sum_by}
use Rattle.tcc_survey_run.proofs.saying.read_count.Given as goal

abbrev pub invariant-loop-number : goal.invariant-loop-number
invariant-loop-number l = l.reads ≡ sum_by (λ e. length e.reads) (take l.number l.graph.entries)
