use Rattle.std.proofs.Common.{◌≡◌, [], take, drop}
use Rattle.tcc_txn.specs.Snapshots.{first_repeated}
use Rattle.tcc_txn.proofs.Parts.{names_of}
use Rattle.tcc_txn.proofs.snapshot.repeated_by_pairs.Given as goal

-- the first repeated name is from here on
abbrev pub invariant-loop-earlier : goal.invariant-loop-earlier
invariant-loop-earlier l =
    first_repeated (names_of (take l.earlier l.parts)) (names_of (drop l.earlier l.parts)) ≡ first_repeated [] (names_of l.parts)
