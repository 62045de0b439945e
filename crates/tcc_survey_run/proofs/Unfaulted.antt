-- Where no read has a fault, all reads can be traced.
use Rattle.std.proofs.Common.{◌≡◌, ℕ, true, false, cond, List, [], ◌∷◌, ◌++◌, filter, filter_map, flat_map, map, Option, None, Some, refl, sym, ap, ◌∙◌}
use Rattle.std.specs.FinMap.{entries}
use Rattle.std.specs.Prelude.{is_none}
use Rattle.std.specs.List.{cons_option}
use Rattle.std.proofs.lemmas.List.Elements.{filter_map-append}
use Rattle.tcc_txn.specs.Snapshots.{Sessions}
use Rattle.tcc_reads.specs.declared.fault.ReadFault.{ReadFault}
use Rattle.tcc_reads.specs.Faults.{fault_at, faults_of, read_faults}
use Rattle.tcc_reads.specs.History.{Entry, History, initial}
use Rattle.tcc_reads.specs.Sites.{Stand, is_committed, sites_of, stands}
use Rattle.tcc_reads.specs.Sources.{entry_of, external_read, history, pair_cmp, sorted_once, source, writes_of}
use Rattle.tcc_reads.specs.Traced.{is_unique, sound_read, traced_entry, traced_history}

-- what passes where another gives nothing is all, where that gives nothing at all
passes : {A B C : Type 0} (f : A → Option B) (g : A → Option C) (xs : List A) → filter_map f xs ≡ []
    → filter_map (λ x. cond (is_none (f x)) (g x) None) xs ≡ filter_map g xs
passes f g [] e = refl
passes {B = B} {C = C} f g (x ∷ xs) e = front (f x) (g x) (filter_map f xs) e (passes f g xs)
  where
    front : (o : Option B) (c : Option C) (found : List B) → cons_option o found ≡ []
        → (found ≡ [] → filter_map (λ x. cond (is_none (f x)) (g x) None) xs ≡ filter_map g xs)
        → cons_option (cond (is_none o) c None) (filter_map (λ x. cond (is_none (f x)) (g x) None) xs) ≡ cons_option c (filter_map g xs)
    front None c found e rest = ap (cons_option c) (rest e)
    front (Some b) c found e rest = let bad : ⊥ = cc in absurd bad

append_nil : {A : Type 0} (xs ys : List A) → xs ++ ys ≡ [] → (xs ≡ []) × (ys ≡ [])
append_nil [] ys e = (refl, e)
append_nil (x ∷ xs) ys e = let bad : ⊥ = cc in absurd bad

filter_true : {A : Type 0} (xs : List A) → filter (λ x. true) xs ≡ xs
filter_true [] = refl
filter_true (x ∷ xs) = ap (λ rest. x ∷ rest) (filter_true xs)

module _ (all : List Stand) (none : faults_of all ≡ []) where
  abbrev with_reads : Stand → List (List ℕ × ℕ) → Entry
  with_reads stand rs = record {
    owner = stand.session;
    place = stand.place;
    writes = writes_of stand;
    reads = sorted_once pair_cmp (map (λ r. (r.0, source all r.0 r.1)) rs);
  }

  entry : (stand : Stand) → filter_map (fault_at all) (sites_of stand) ≡ [] → traced_entry all stand ≡ entry_of all stand
  entry stand quiet =
      ap (λ (fs : List ReadFault). with_reads stand (filter (is_unique fs) (filter_map (sound_read all) (sites_of stand)))) none
      ∙ ap (with_reads stand) (filter_true (filter_map (sound_read all) (sites_of stand)) ∙ passes (fault_at all) external_read (sites_of stand) quiet)

  entries_alike : (some : List Stand) → filter_map (fault_at all) (flat_map sites_of some) ≡ []
      → map (traced_entry all) (filter is_committed some) ≡ map (entry_of all) (filter is_committed some)
  entries_alike [] quiet = refl
  entries_alike (stand ∷ some) quiet =
      let parts = append_nil (filter_map (fault_at all) (sites_of stand)) (filter_map (fault_at all) (flat_map sites_of some))
      (sym (filter_map-append (fault_at all) (sites_of stand) (flat_map sites_of some)) ∙ quiet) in
      let rest = entries_alike some parts.1 in
      elim (is_committed stand) as (λ b. map (traced_entry all) (cond b (stand ∷ filter is_committed some) (filter is_committed some))
      ≡ map (entry_of all) (cond b (stand ∷ filter is_committed some) (filter is_committed some))) [
        | true ↦ λ i. entry stand parts.0 i ∷ rest i
        | false ↦ rest
      ]

abbrev history_with : Sessions → List Entry → History
history_with s es = record { sessions = map (λ named. named.0) (entries s); entries = initial ∷ es }

-- where no read has a fault, the traced history is the history
pub unfaulted : (s : Sessions) → read_faults s ≡ [] → traced_history s ≡ history s
unfaulted s none = ap (λ (es : List Entry). history_with s es) (entries_alike (stands s) none (stands s) none)
