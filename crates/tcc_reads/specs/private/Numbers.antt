-- Transactions with their numbers, as the resolver lists them.
use Rattle.std.specs.Prelude.{ℕ, ◌+◌, ◌<◌, false, List, [], ◌∷◌, map, length, slice_index_or, if◌then◌else◌, refl}
use Rattle.std.specs.Coded.{Coded, code_by, coded×, coded_list, coded_ℕ}
use Rattle.tcc_txn.specs.private.SnapshotStorage.{transaction_code}
use Rattle.std.specs.FinMap.{entries}
use Rattle.tcc_txn.specs.declared.limits.TheConstants.{LARGE_COUNT}
use Rattle.tcc_txn.specs.Snapshots.{Sessions, finished_at}
use Rattle.tcc_txn.specs.Transactions.{Transaction}
use Rattle.tcc_reads.specs.declared.located.Place.{Place}
use Rattle.tcc_reads.specs.Sites.{Stand, is_committed}

-- a transaction, with one more than the count of committed ones before it: its number, if it was committed
pub record Numbered : Type 0 where
  pub number : ℕ
  pub stand : Stand

abbrev pub next_number : ℕ → Stand → ℕ
next_number number stand = if is_committed stand then number + 1 else number

abbrev pub numbered_from : ℕ → List Stand → List Numbered
numbered_from number [] = []
numbered_from number (stand ∷ later) = record { number = number; stand = stand } ∷ numbered_from (next_number number stand) later

abbrev pub numbered_code : Coded Numbered
numbered_code =
    code_by ((ℕ × ℕ) × (List ℕ × (ℕ × Transaction)))
    (coded× (coded× coded_ℕ coded_ℕ) (coded× (coded_list coded_ℕ) (coded× coded_ℕ transaction_code)))
    (λ n. ((n.number, n.stand.session), (n.stand.name, (n.stand.place, n.stand.txn))))
    (λ p. record { number = p.0.0; stand = record { session = p.0.1; name = p.1.0; place = p.1.1.0; txn = p.1.1.1 } })
    (λ _. refl)

-- a transaction of the snapshot is at this place
pub record IsPlace (s : Sessions) (p : Place) : Type 0 where
  pub session : p.session < length (entries s)
  pub before : p.before < length (finished_at s p.session)
  pub few : p.before < LARGE_COUNT

-- the name of the session at an index
abbrev pub name_in : Sessions → ℕ → List ℕ
name_in s session = (slice_index_or (entries s) session ([], [])).0

-- the transaction there
abbrev pub numbered_at : Sessions → Place → Numbered
numbered_at s p = record {
  number = p.number;
  stand = record {
    session = p.session;
    name = name_in s p.session;
    place = p.before + 1;
    txn = slice_index_or (finished_at s p.session) p.before (record { ops = []; committed = false });
  };
}

-- the transactions at these places
abbrev pub numbered : Sessions → List Place → List Numbered
numbered s places = map (numbered_at s) places
