-- The lines of some texts that a run writes.
use Rattle.std.proofs.Common.{◌≡◌, refl, codes}
use Rattle.tcc_batch.specs.Headlines.{headline}

-- of a consistent history the order is left out
consistent : headline (codes "consistent: 1 transactions, 1 sessions\norder: init a/1\n") ≡ codes "consistent: 1 transactions, 1 sessions"
consistent = refl

-- of an anomaly the links are
anomaly : headline (codes "anomaly: 2 steps, cyclic-causality\nreads a/1 -> b/1 by x\nreads b/1 -> a/1 by y\n")
    ≡ codes "anomaly: 2 steps, cyclic-causality"
anomaly = refl

-- of read faults each by itself is
faults : headline (codes "unresolved: 1 faults\nThinAir a/1 op 1 x 7\n") ≡ codes "unresolved: 1 faults"
faults = refl

-- of two answers it is the last, and the line of a fault comes after them
answers : headline (codes "consistent: 0 transactions, 0 sessions\norder: init\nconsistent: 1 transactions, 1 sessions\norder: init a/1\n")
    ≡ codes "consistent: 1 transactions, 1 sessions"
answers = refl

fault : headline (codes "consistent: 0 transactions, 0 sessions\norder: init\nrow 2: Unfinished a\n") ≡ codes "row 2: Unfinished a"
fault = refl

memory : headline (codes "memory\n") ≡ codes "memory"
memory = refl
