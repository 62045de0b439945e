use Rattle.std.proofs.Common.{ℕ, List}
use Rattle.tcc_reads.specs.History.{count}
use Rattle.tcc_graph.specs.Keys.{key_at}
use Rattle.tcc_graph.specs.Relations.{IsReadsPair}
use Rattle.tcc_judge.specs.private.Blocks.{IsAt}
use Rattle.tcc_judge.specs.private.Contradicted.{IsGreatestOf, IsInLanes}
use Rattle.tcc_judge.specs.private.Positions.{ArePositions}
use Rattle.tcc_judge.proofs.contradicted.contradicted_to.Given as goal

abbrev pub invariant-loop-session : goal.invariant-loop-session
invariant-loop-session l =
    (order : List ℕ) (place a : ℕ) → IsAt l.graph order place l.block → ArePositions (count l.graph) order l.positions
    → IsReadsPair l.graph a l.reader (key_at l.graph l.key_index)
    → IsGreatestOf (IsInLanes l.graph order l.positions l.block.from place (key_at l.graph l.key_index) l.reader l.session) l.last
