use Rattle.std.proofs.Common.{◌<◌, ℕ, get_or}
use Rattle.tcc_check.specs.private.SinglePairs.{DoesWriterStand}
use Rattle.tcc_check.proofs.single_pairs.sources_stand.Given as goal

abbrev pub invariant-loop-key : goal.invariant-loop-key
invariant-loop-key l =
    (j : ℕ) (d : ℕ × ℕ) → j < l._key-index → DoesWriterStand l.graph l.positions l.sources.items (get_or l._key-items j d).1
