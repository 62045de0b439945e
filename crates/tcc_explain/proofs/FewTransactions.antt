-- How many transactions the history of a snapshot has.
use Rattle.std.proofs.Common.{◌≤◌, ◌+◌, Bool, true, false, cond, List, [], ◌∷◌, length, arith}
use Rattle.std.specs.Prelude.{filter}
use Rattle.std.specs.FinMap.{entries}
use Rattle.std.proofs.lemmas.List.{length-map}
use Rattle.tcc_txn.specs.Snapshots.{Sessions}
use Rattle.tcc_txn.specs.Finished.{transaction_count}
use Rattle.tcc_reads.specs.History.{count}
use Rattle.tcc_reads.specs.Sites.{is_committed, stands, committed}
use Rattle.tcc_reads.specs.Sources.{entry_of, history}
use Rattle.tcc_reads.proofs.Counting.{length-stands_from}

few_kept : {X : Type 0} (p : X → Bool) (xs : List X) → length (filter p xs) ≤ length xs
few_kept p [] = omega arith
few_kept {X} p (x ∷ xs) = go (p x) (few_kept p xs)
  where
    go : (b : Bool) → length (filter p xs) ≤ length xs → length (cond b (x ∷ filter p xs) (filter p xs)) ≤ length (x ∷ xs)
    go true few = omega (arith, few)
    go false few = omega (arith, few)

-- at most one more than the transactions of the snapshot
pub count_few : (s : Sessions) → count (history s) ≤ transaction_count s + 1
count_few s = omega (arith, length-map (committed (stands s)) (entry_of (stands s)), few_kept is_committed (stands s), length-stands_from 0 (entries s))
