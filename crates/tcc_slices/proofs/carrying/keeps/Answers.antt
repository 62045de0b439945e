use Rattle.std.proofs.Common.{sym, ◌∙◌}
use Rattle.std.proofs.lemmas.Bool.{false≢true}
use Rattle.tcc_slices.proofs.carrying.keeps.Goals.{then-keeps_reads, else-keeps_reads}
use Rattle.tcc_slices.proofs.carrying.keeps.Goals as goal

pub returns-then-keeps_sessions : goal.returns-then-keeps_sessions
returns-then-keeps_sessions c = elim c.if-keeps_reads.branch [
  | then-keeps_reads w ↦ (
    λ is. (c.keeps_reads.ensures.0 w.if-keeps_reads.true, w.keeps_sessions.ensures.0 (sym w.value-is ∙ c.if-keeps_sessions.true), c.keeps_writes.ensures.0 is),
    λ kept. c.keeps_writes.ensures.1 kept.2,
  )
  | else-keeps_reads w ↦ absurd (false≢true (sym w.if-keeps_reads.false ∙ sym w.value-is ∙ c.if-keeps_sessions.true))
]
