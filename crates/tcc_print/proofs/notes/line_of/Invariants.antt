-- the fields so far
use Rattle.std.proofs.Common.{◌≡◌, ◌++◌, take, flat_map}
use Rattle.std.specs.Prelude.{codes}
use Rattle.tcc_print.proofs.notes.line_of.Given as goal

abbrev pub invariant-loop-field : goal.invariant-loop-field
invariant-loop-field l = l.line.items ≡ l.initial.line.items ++ flat_map (λ field. codes "," ++ take 49 field.now) (take l.field-index l.others)
