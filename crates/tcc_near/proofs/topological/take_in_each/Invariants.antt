use Rattle.std.proofs.Common.{◌≡◌, ◌≤◌, ℕ, length, take}
use Rattle.tcc_reads.specs.History.{History, count}
use Rattle.tcc_graph.specs.Relations.{IsSessionPair}
use Rattle.tcc_near.specs.private.Backwards.{IsLeastFrom, IsNextOrOne, AreKnown}
use Rattle.tcc_txn.specs.declared.limits.TheConstants.{MAX_COUNT}
use Rattle.tcc_near.proofs.topological.take_in_each.Given as goal

abbrev pub invariant-loop-number : goal.invariant-loop-number
invariant-loop-number l =
    (length l.row ≡ length l.initial.row)
    × ((h : History) (a : ℕ) → count h ≤ MAX_COUNT → AreKnown h l.rows → IsLeastFrom h (IsSessionPair h a) l.initial.row
    → IsLeastFrom h (IsNextOrOne h a (take l.number-index l.numbers)) l.row)
