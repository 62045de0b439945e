-- Each level has a line of its own.
use Rattle.tcc_cert.proofs.large_writing.header_line.Goals.{in-Causal, in-Atomic}
use Rattle.tcc_cert.proofs.large_writing.header_line.Goals as goal

pub returns : goal.returns
returns g c =
    elim c.match-level.branch [
      | in-Causal w ↦ rw w.in-Causal.is (rw w.level-is at c.line.ensures)
      | in-Atomic w ↦ rw w.in-Atomic.is (rw w.level-is at c.line.ensures)
    ]
