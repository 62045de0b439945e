use Rattle.std.proofs.Common.{◌<◌, ℕ, get_or}
use Rattle.tcc_graph.specs.Keys.{key_at}
use Rattle.tcc_graph.specs.declared.level.Level.TheVariants.{Causal}
use Rattle.tcc_check.specs.private.Latest.{IsReadKept}
use Rattle.tcc_check.proofs.latest.are_reads_kept.Given as goal

abbrev pub invariant-loop-key : goal.invariant-loop-key
invariant-loop-key l =
    (k : ℕ) (d : ℕ × ℕ) → k < l.key-index
    → IsReadKept l.graph Causal l.positions l.clocks (key_at l.graph (get_or l.key-items k d).0) (get_or l.key-items k d).1 l.c
