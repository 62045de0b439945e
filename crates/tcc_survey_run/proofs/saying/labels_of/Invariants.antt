-- the labels so far
use Rattle.std.proofs.Common.{◌≡◌, map, string_bytes, take}
use Rattle.tcc_graph.specs.Numbers.{label}
use Rattle.tcc_survey_run.proofs.saying.labels_of.Given as goal

abbrev pub invariant-loop-number : goal.invariant-loop-number
invariant-loop-number l = map string_bytes l.labels.items ≡ map (label l.graph) (take l.number-index l.numbers)
