-- Places of transactions, and the transactions there.
use Rattle.std.proofs.Common.{◌≡◌, ℕ, ◌+◌, ◌<◌, false, cond, List, ◌∷◌, [], ◌++◌, length, drop, option_map, ap, sym, ◌∙◌}
use Rattle.std.specs.FinMap.{entries}
use Rattle.std.proofs.lemmas.List.{append_assoc, map-append}
use Rattle.std.proofs.lemmas.Option.{slice_get-get_or}
use Rattle.tcc_txn.specs.Snapshots.{Sessions, finished_at}
use Rattle.tcc_txn.specs.Transactions.{Transaction}
use Rattle.tcc_reads.specs.declared.located.Place.{Place}
use Rattle.tcc_reads.specs.Sites.{Stand, stands_in}
use Rattle.tcc_reads.specs.private.Numbers.{Numbered, name_in, numbered, numbered_at, numbered_from}
use Rattle.tcc_reads.proofs.Counting.{named_at}
use Rattle.tcc_reads.proofs.Indices.{behind}

-- the sessions from an index on
pub entry_at : (s : Sessions) (i : ℕ) → i < length (entries s) → drop i (entries s) ≡ (name_in s i, finished_at s i) ∷ drop (i + 1) (entries s)
entry_at s i within = named_at s i (name_in s i) within (sym (ap (option_map (λ (p : List ℕ × List Transaction). p.0)) (slice_get-get_or (entries s) i ([], []) within)))

module _ (s : Sessions) (session before number : ℕ) (txn : Transaction) (later : List Transaction) (is : drop before (finished_at s session) ≡ txn ∷ later) where
  abbrev here : Place
  here = record { session = session; before = before; number = number }

  abbrev there : Numbered
  there = record { number = number; stand = record { session = session; name = name_in s session; place = before + 1; txn = txn } }

  pub found_there : numbered_at s here ≡ there
  found_there = λ i. record {
    number = number;
    stand = record {
      session = session;
      name = name_in s session;
      place = before + 1;
      txn = (behind (finished_at s session) before txn later is).1 (record { ops = []; committed = false }) i;
    };
  }

  pub more_places : (places : List Place) (all : List Numbered) (rest : List Stand)
      → numbered s places ++ numbered_from number (stands_in session (name_in s session) (before + 1) (drop before (finished_at s session)) ++ rest) ≡ all
      → numbered s (places ++ here ∷ [])
      ++ numbered_from (cond txn.committed (number + 1) number) (stands_in session (name_in s session) (before + 1 + 1) later ++ rest) ≡ all
  more_places places all rest given =
      let after : List Numbered = numbered_from (cond txn.committed (number + 1) number) (stands_in session (name_in s session) (before + 1 + 1) later ++ rest) in
      ap (λ ns. ns ++ after) (map-append (numbered_at s) places (here ∷ []))
      ∙ append_assoc (numbered s places) (numbered_at s here ∷ []) after
      ∙ ap (λ n. numbered s places ++ (n ∷ after)) found_there
      ∙ sym (ap (λ txns. numbered s places ++ numbered_from number (stands_in session (name_in s session) (before + 1) txns ++ rest)) is)
      ∙ given
