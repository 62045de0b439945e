use Rattle.std.proofs.Common.{◌<◌, ℕ, get_or}
use Rattle.tcc_graph.specs.Keys.{key_at, writers}
use Rattle.tcc_check.specs.private.SinglePairs.{DoesSessionStand}
use Rattle.tcc_check.proofs.single_pairs.sessions_stand.Given as goal

abbrev pub invariant-loop-key : goal.invariant-loop-key
invariant-loop-key l =
    (j : ℕ) (d : ℕ × ℕ) → j < l.key-index
    → DoesSessionStand l.graph l.positions (writers l.graph (key_at l.graph (get_or l.key-items j d).0)) (get_or l.key-items j d).1 l.c
