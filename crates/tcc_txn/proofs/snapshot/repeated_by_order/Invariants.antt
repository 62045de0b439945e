use Rattle.std.proofs.Common.{◌≡◌, ℕ, List, [], take, drop}
use Rattle.std.specs.BTreeSet.{contains}
use Rattle.std.specs.Ordering.{nat_cmp}
use Rattle.std.specs.Cmp.Lexicographic.{slice_cmp}
use Rattle.tcc_txn.specs.Snapshots.{first_repeated}
use Rattle.tcc_txn.proofs.Parts.{has_name, names_of}
use Rattle.tcc_txn.proofs.snapshot.repeated_by_order.Given as goal

-- the first repeated name is from here on, and the names before it are in the set
abbrev pub invariant-loop-part : goal.invariant-loop-part
invariant-loop-part l =
    (first_repeated (names_of (take l.part-index l.parts)) (names_of (drop l.part-index l.parts)) ≡ first_repeated [] (names_of l.parts))
    × ((q : List ℕ) → contains (slice_cmp nat_cmp) l.names q ≡ has_name (take l.part-index l.parts) q)
