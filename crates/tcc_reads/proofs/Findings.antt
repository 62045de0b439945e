-- What the resolver finds is the history of the snapshot, or its faults.
use Rattle.std.proofs.Common.{◌≡◌, ℕ, zero, suc, ◌+◌, ◌≤◌, true, false, List, [], ◌∷◌}
use Rattle.std.proofs.Common.{length, map, filter, filter_map, flat_map, sum_by, Some, ap, sym, ◌∙◌, subst}
use Rattle.std.proofs.Common.{arith}
use Rattle.std.specs.Prelude.{◌==◌}
use Rattle.std.specs.List.{position_from}
use Rattle.std.specs.FinMap.{entries}
use Rattle.std.proofs.lemmas.Bool.{eqb-true}
use Rattle.std.proofs.lemmas.List.{nil_from_length}
use Rattle.tcc_txn.specs.Snapshots.{Sessions}
use Rattle.tcc_txn.specs.Transactions.{Transaction}
use Rattle.tcc_txn.specs.declared.limits.TheConstants.{LARGE_SESSIONS, LARGE_TRANSACTIONS}
use Rattle.tcc_reads.specs.declared.fault.ReadFault.{ReadFault}
use Rattle.tcc_reads.specs.declared.writers.Writer.{Writer}
use Rattle.tcc_reads.specs.History.{Entry, History, initial, places_of}
use Rattle.tcc_reads.specs.Sites.{Stand, stands_from, sites_of, committed}
use Rattle.tcc_reads.specs.private.Numbers.{Numbered, numbered_from}
use Rattle.tcc_reads.specs.Sources.{shows, external_reads, entry_of, history_of, history}
use Rattle.tcc_reads.specs.Faults.{writer, faults_of, read_faults}
use Rattle.tcc_reads.specs.Traced.{is_unique, sound_read, traced_entry, traced_history, traced_reads}
use Rattle.tcc_reads.specs.private.Stored.{IsStored}
use Rattle.tcc_reads.specs.private.Tracings.{entries_traced}
use Rattle.tcc_reads.specs.private.Verdicts.{Writes, AreFirstWriters, faults_found, entries_found}
use Rattle.tcc_reads.proofs.Agreement.{Agree, agree_on, faults_agree}
use Rattle.tcc_reads.proofs.Sourcing.{sourced, entries_agree}
use Rattle.tcc_reads.proofs.Traces.{traces_agree}
use Rattle.tcc_reads.proofs.StoredEntries.{entry, few_nodes, stored}

-- names, table, nodes and faults as the resolver makes them
pub record AreFindings (named : List (List ℕ × List Transaction)) (names : List (List ℕ)) (table : Writes) (nodes : List Entry) (faults : List ReadFault)
    : Type 0 where
  pub names_are : names ≡ map (λ part. part.0) named
  pub table_is : AreFirstWriters table (numbered_from 1 (stands_from 0 named))
  pub nodes_are : nodes ≡ initial ∷ entries_found table (numbered_from 1 (stands_from 0 named))
  pub faults_are : faults ≡ flat_map (faults_found table) (numbered_from 1 (stands_from 0 named))

pub findings : (named : List (List ℕ × List Transaction)) (names : List (List ℕ)) (table : Writes) (nodes : List Entry) (faults : List ReadFault)
    (all first second : List Numbered)
    → names ≡ map (λ part. part.0) named → all ≡ numbered_from 1 (stands_from 0 named)
    → first ≡ all → AreFirstWriters table first
    → second ≡ all → nodes ≡ initial ∷ entries_found table second → faults ≡ flat_map (faults_found table) second
    → AreFindings named names table nodes faults
findings named names table nodes faults all first second names_are all_are first_is table_is second_is nodes_are faults_are = record {
  names_are = names_are;
  table_is = subst (AreFirstWriters table) (first_is ∙ all_are) table_is;
  nodes_are = nodes_are ∙ ap (λ ns. initial ∷ entries_found table ns) (second_is ∙ all_are);
  faults_are = faults_are ∙ ap (λ ns. flat_map (faults_found table) ns) (second_is ∙ all_are);
}

pub none_left : {A : Type 0} (n : ℕ) (xs : List A) → n ≡ length xs → true ≡ (n == 0) → xs ≡ []
none_left n xs counted is = nil_from_length xs (sym counted ∙ eqb-true n 0 (sym is))

pub some_left : {A : Type 0} (n : ℕ) (xs : List A) → n ≡ length xs → false ≡ (n == 0) → xs ≡ [] → ⊥
some_left zero xs counted is none = cc
some_left (suc n) xs counted is none = let empty : suc n ≡ 0 = counted ∙ ap length none in absurd (omega arith)

module _ (named : List (List ℕ × List Transaction)) (names : List (List ℕ)) (table : Writes) (nodes : List Entry) (faults : List ReadFault)
    (found : AreFindings named names table nodes faults) where
  abbrev all : List Stand
  all = stands_from 0 named

  agrees : (x : List ℕ) (v : ℕ) → Agree (table x v) (writer all x v)
  agrees x v = subst (λ o. Agree o (writer all x v)) (sym (found.table_is x v)) (agree_on 1 all x v)

  pub faults_of_findings : faults ≡ faults_of all
  faults_of_findings = found.faults_are ∙ faults_agree all table agrees 1 all

  known : (x : List ℕ) (v : ℕ) (first : Writer) (m : ℕ) → table x v ≡ Some first → first.number ≡ Some m → first.last ≡ true
      → position_from (shows x v) 1 (committed all) ≡ Some m
  known x v first m held_there is last = sourced 1 all x v first m (sym (found.table_is x v) ∙ held_there) is last

  pub nodes_of_findings : faults ≡ [] → nodes ≡ initial ∷ map (entry_of all) (committed all)
  nodes_of_findings none =
      found.nodes_are
      ∙ ap (λ es. initial ∷ es) (entries_agree all table known 1 all (sym found.faults_are ∙ none))

  abbrev as_history : List (List ℕ) → List Entry → History
  as_history ns es = record { sessions = ns; entries = es }

  -- if there are no faults, they are the history of a snapshot with these sessions, which has no faults either
  pub history_of_findings : faults ≡ [] → (s : Sessions) → entries s ≡ named → (read_faults s ≡ []) × (as_history names nodes ≡ history s)
  history_of_findings none s is = (
    ap (λ es. faults_of (stands_from 0 es)) is ∙ sym faults_of_findings ∙ none,
    (λ i. as_history (found.names_are i) (nodes_of_findings none i))
        ∙ ap (λ es. history_of (map (λ part. part.0) es) (stands_from 0 es)) (sym is),
  )

  -- if faults are found, they are those of a snapshot with these sessions
  pub refusal_of_findings : (faults ≡ [] → ⊥) → (s : Sessions) → entries s ≡ named → (faults ≡ read_faults s) × (faults ≡ [] → ⊥)
  refusal_of_findings some s is = (faults_of_findings ∙ ap (λ es. faults_of (stands_from 0 es)) (sym is), some)

  -- there are at most as many transactions as the sessions have, and one more
  pub few_findings : faults ≡ [] → length nodes ≤ sum_by (λ part. length part.1) named + 1
  few_findings none = few_nodes named external_reads nodes (nodes_of_findings none)

  pub stored_findings : (places : List (ℕ × ℕ)) → faults ≡ [] → places ≡ places_of nodes → length named ≤ LARGE_SESSIONS
      → sum_by (λ part. length part.1) named ≤ LARGE_TRANSACTIONS → IsStored names places nodes
  stored_findings places none are few_sessions few_transactions =
      stored named external_reads names places nodes found.names_are (nodes_of_findings none) are few_sessions few_transactions

  module _ (kept : List Entry) (traced : kept ≡ initial ∷ entries_traced table (is_unique faults) (numbered_from 1 all)) where
    traced_nodes : kept ≡ initial ∷ map (traced_entry all) (committed all)
    traced_nodes =
        traced
        ∙ ap (λ es. initial ∷ es) (traces_agree all table agrees known (is_unique faults) 1 all)
        ∙ ap (λ (fs : List ReadFault). initial ∷ map (entry named (λ stand. filter (is_unique fs) (filter_map (sound_read all) (sites_of stand))))
        (committed all)) faults_of_findings

    -- what is traced is the traced history of a snapshot with these sessions, and the faults are its faults
    pub traced_of_findings : (s : Sessions) → entries s ≡ named → (as_history names kept ≡ traced_history s) × (faults ≡ read_faults s)
    traced_of_findings s is = (
      (λ i. as_history (found.names_are i) (traced_nodes i))
          ∙ ap (λ es. as_history (map (λ part. part.0) es) (initial ∷ map (traced_entry (stands_from 0 es)) (committed (stands_from 0 es)))) (sym is),
      faults_of_findings ∙ ap (λ es. faults_of (stands_from 0 es)) (sym is),
    )

    pub stored_traced : (places : List (ℕ × ℕ)) → places ≡ places_of kept → length named ≤ LARGE_SESSIONS
        → sum_by (λ part. length part.1) named ≤ LARGE_TRANSACTIONS → IsStored names places kept
    stored_traced places are few_sessions few_transactions =
        stored named (traced_reads all) names places kept found.names_are traced_nodes are few_sessions few_transactions
