use Rattle.std.proofs.Common.{◌≡◌, ◌++◌, take, flat_map, map, string_bytes}
use Rattle.std.specs.Prelude.{codes}
use Rattle.tcc_survey_run.proofs.lines.circle_line.Given as goal

abbrev pub invariant-loop-label : goal.invariant-loop-label
invariant-loop-label l = l.text.items ≡ codes "circular:" ++ flat_map (λ label. codes " " ++ label) (map string_bytes (take l.label-index l.labels))
