-- the fields so far, all of which the record has
use Rattle.std.proofs.Common.{◌≡◌, map, take}
use Rattle.tcc_rows.specs.Reached.{last_record}
use Rattle.tcc_verdict.proofs.stopping.last_fields.Given as goal

abbrev pub invariant-loop-place : goal.invariant-loop-place
invariant-loop-place g l = map (λ field. field.now) l.fields.items ≡ take l.place (last_record l.recording.rows)
