-- The history of a snapshot: its transactions are numbered by session and by place.
use Rattle.std.proofs.Common.{ℕ, zero, suc, ◌≡◌, ◌<◌, ◌≤◌, List, length, map, arith}
use Rattle.std.specs.FinMap.{entries}
use Rattle.std.proofs.lemmas.List.{length-map}
use Rattle.tcc_txn.specs.Snapshots.{Sessions}
use Rattle.tcc_reads.specs.History.{Entry, initial, count, owner, place}
use Rattle.tcc_reads.specs.Sites.{Stand, is_committed, stands, committed}
use Rattle.tcc_reads.specs.Sources.{entry_of, history}
use Rattle.tcc_reads.proofs.Rising.{each_filter, each_map, each_at, from_placed}
use Rattle.tcc_core.proofs.SessionLemmas.{owned_of, apart_of}
use Rattle.tcc_explain.specs.Certificates.{IsNumbered}

module _ (s : Sessions) where
  abbrev list : List Entry
  list = map (entry_of (stands s)) (committed (stands s))

  owned : (n : ℕ) → 0 < n → n < count (history s) → owner (history s) n < length (history s).sessions
  owned n some below = omega (arith, owned_of s n some below, length-map (entries s) (λ named. named.0))

  placed : (n : ℕ) → 0 < n → n < count (history s) → 0 < place (history s) n
  placed zero some below = absurd (omega arith)
  placed (suc i) some below =
      each_at (λ (e : Entry). 1 ≤ e.place) list i initial (omega arith)
      (each_map (λ (e : Entry). 1 ≤ e.place) (entry_of (stands s)) (committed (stands s))
      (each_filter (λ (x : Stand). 1 ≤ x.place) is_committed (stands s) (from_placed 0 (entries s))))

  pub numbered : IsNumbered (history s)
  numbered = record { owned = owned; placed = placed; apart = apart_of s }
