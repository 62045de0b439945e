use Rattle.std.proofs.Common.{◌≡◌, ℕ, List, length}
use Rattle.tcc_judge.specs.private.Blocks.{IsAt}
use Rattle.tcc_judge.proofs.ContradictedLemmas.{AreStaleIn}
use Rattle.tcc_judge.proofs.contradicted.mark_stale.Given as goal

abbrev pub invariant-loop-index : goal.invariant-loop-index
invariant-loop-index l = record {
  same : length l.stale ≡ length l.initial.stale;
  each : (order : List ℕ) → IsAt l.graph order 1 l.block → AreStaleIn l.graph order l.block.from l.readers l.key_indices l.index l.initial.stale l.stale;
}
