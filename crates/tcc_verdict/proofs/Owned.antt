-- Each committed transaction of a snapshot is of one of its sessions.
use Rattle.std.proofs.Common.{◌≡◌, ◌∷◌, ◌<◌, ◌≤◌, ℕ, List, zero, suc, length, map, refl, sym, ap, subst, arith}
use Rattle.std.proofs.lemmas.List.{length-map}
use Rattle.std.specs.FinMap.{entries}
use Rattle.std.specs.Prelude.{slice_index_or}
use Rattle.tcc_reads.specs.History.{Entry, History, count, initial, owner}
use Rattle.tcc_reads.specs.Sites.{Stand, committed, is_committed, stands_from}
use Rattle.tcc_reads.specs.Sources.{entry_of, history}
use Rattle.tcc_reads.proofs.Rising.{Each, each_at, each_filter, each_map, from_below}
use Rattle.tcc_txn.specs.Snapshots.{Sessions}
use Rattle.tcc_txn.specs.Transactions.{Transaction}

module _ (named : List (List ℕ × List Transaction)) (bound : ℕ) (within : length named ≤ bound) where
  abbrev list : List Entry
  list = map (entry_of (stands_from 0 named)) (committed (stands_from 0 named))

  below : Each (λ (e : Entry). e.owner < bound) list
  below =
      each_map (λ (e : Entry). e.owner < bound) (entry_of (stands_from 0 named)) (committed (stands_from 0 named))
      (each_filter (λ (x : Stand). x.session < bound) is_committed (stands_from 0 named) (from_below 0 bound named (omega (arith, within))))

  pub owner_below : (h : History) (n : ℕ) → h.entries ≡ initial ∷ list → 0 < n → n < count h → owner h n < bound
  owner_below h zero is some l = absurd (omega (arith, some))
  owner_below h (suc n) is some l =
      subst (λ (es : List Entry). (slice_index_or es (suc n) initial).owner < bound) (sym is)
      (each_at (λ (e : Entry). e.owner < bound) list n initial (omega (arith, l, ap length is)) below)

pub owned : (s : Sessions) (n : ℕ) → 0 < n → n < count (history s) → owner (history s) n < length (history s).sessions
owned s n some l =
    owner_below (entries s) (length (history s).sessions) (omega (arith, length-map (entries s) (λ named. named.0))) (history s) n refl some l
