-- The links have no slice, and nothing is written to the file.
use Rattle.std.proofs.Common.{inr, refl}
use Rattle.std.proofs.KnownBytes.{Appends-nil}
use Rattle.tcc_run.proofs.writing.send_slice.Goals as goal

pub returns-in-Ok-None : goal.returns-in-Ok-None
returns-in-Ok-None g c = λ is has. (refl, inr (rw c.in-Ok-None.field-0-is at (c.in-Ok-None.ensures is has), Appends-nil _))
