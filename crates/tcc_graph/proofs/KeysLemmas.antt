-- Which names are keys.
use Rattle.std.proofs.Common.{ℕ, zero, suc, ◌<◌, ◌≡◌, Bool, true, false, List, [], ◌∷◌, length, get_or, refl, sym, ap, ◌∙◌, arith, inl, inr}
use Rattle.std.specs.Prelude.{map, filter, flat_map, bytes_eq, ◌||◌, ◌==◌}
use Rattle.std.specs.BTreeSet.{insert_key}
use Rattle.std.specs.List.{list_any}
use Rattle.std.proofs.Math.Bool.{or-false}
use Rattle.std.proofs.lemmas.Bool.{or_parts, cases_lt}
use Rattle.std.proofs.lemmas.List.{get_or_past, get_or_default}
use Rattle.std.proofs.lemmas.List.Folds.{list_any-append, list_any_none, list_any-from_Any}
use Rattle.tcc_reads.specs.Sources.{name_cmp}
use Rattle.tcc_reads.specs.History.{Entry, History, entry_at, initial}
use Rattle.tcc_graph.specs.Relations.{reads_from}
use Rattle.tcc_graph.specs.Keys.{has_name, with_names, keys_of, keys, is_key, readers, numbers}
use Rattle.tcc_graph.specs.KeyIndices.{IsAbsent, StandsAt, name_of}
use Rattle.std.proofs.lemmas.Cmp.{nat_list_cmp_total}
use Rattle.std.proofs.lemmas.Map.Lookups.{exact_bytes}
use Rattle.tcc_reads.proofs.SortedOnce.{any_inserted}
use Rattle.tcc_graph.proofs.NameLemmas.{bytes_eq-same, bytes_eq-other}

or_pairs : (a : Bool) (b : Bool) (c : Bool) → ((a || b) || c) ≡ (b || (a || c))
or_pairs true true c = refl
or_pairs true false c = refl
or_pairs false b c = refl

or_joined : (a : Bool) (b : Bool) (c : Bool) → ((a || b) || c) ≡ (a || (b || c))
or_joined true b c = refl
or_joined false b c = refl

pub has_name-with : (sorted : List (List ℕ)) (names : List (List ℕ)) (x : List ℕ) → has_name (with_names sorted names) x ≡ (has_name sorted x || has_name names x)
has_name-with sorted [] x = sym (or-false (has_name sorted x))
has_name-with sorted (n ∷ names) x =
    has_name-with (insert_key name_cmp sorted n) names x
    ∙ ap (λ b. b || has_name names x) (any_inserted nat_list_cmp_total exact_bytes (bytes_eq x) n sorted)
    ∙ or_pairs (bytes_eq x n) (has_name sorted x) (has_name names x)

has_name-flat_map : (entries : List Entry) (x : List ℕ) → has_name (flat_map keys_of entries) x ≡ list_any (λ e. has_name (keys_of e) x) entries
has_name-flat_map [] x = refl
has_name-flat_map (e ∷ entries) x =
    list_any-append (bytes_eq x) (keys_of e) (flat_map keys_of entries) ∙ ap (λ b. has_name (keys_of e) x || b) (has_name-flat_map entries x)

-- the keys of a history are the names that its transactions write or read
pub has_name-keys : (h : History) (x : List ℕ) → has_name (keys h) x ≡ is_key h x
has_name-keys h x = has_name-with [] (flat_map keys_of h.entries) x ∙ has_name-flat_map h.entries x

pub present : (names : List (List ℕ)) (x : List ℕ) (i : ℕ) → StandsAt names x i → has_name names x ≡ true
present names x i at = list_any-from_Any (bytes_eq x) names (i, x, at.within, get_or_default names i x [] at.within ∙ at.here, bytes_eq-same x x refl)

pub absent : (names : List (List ℕ)) (x : List ℕ) → IsAbsent names x → has_name names x ≡ false
absent names x none = list_any_none (bytes_eq x) names (λ k d h. bytes_eq-other x _ (λ same.
    let yes : bytes_eq (name_of names k) x ≡ true = bytes_eq-same (name_of names k) x (get_or_default names k [] d h ∙ sym same) in
    let no : bytes_eq (name_of names k) x ≡ false = none k h in
    cc))

list_any-at : {X : Type 0} (p : X → Bool) (xs : List X) → list_any p xs ≡ false → (k : ℕ) (d : X) → k < length xs → p (get_or xs k d) ≡ false
list_any-at p [] none k d h = absurd (omega arith)
list_any-at p (x ∷ xs) none zero d h = (or_parts (p x) (list_any p xs) none).0
list_any-at p (x ∷ xs) none (suc k) d h = list_any-at p xs (or_parts (p x) (list_any p xs) none).1 k d (omega arith)

-- if no read has a key, none of some of these reads has it
has_name-filter : (p : List ℕ × ℕ → Bool) (reads : List (List ℕ × ℕ)) (x : List ℕ) → has_name (map (λ read. read.0) reads) x ≡ false
    → has_name (map (λ read. read.0) (filter p reads)) x ≡ false
has_name-filter p [] x none = refl
has_name-filter p (r ∷ reads) x none =
    let parts = or_parts (bytes_eq x r.0) (has_name (map (λ read. read.0) reads) x) none in
    go (has_name-filter p reads x parts.1) parts.0 (p r) refl
  where
    go : has_name (map (λ read. read.0) (filter p reads)) x ≡ false → bytes_eq x r.0 ≡ false → (b : Bool) → p r ≡ b
        → has_name (map (λ read. read.0) (filter p (r ∷ reads))) x ≡ false
    go rest other true e = rw e (rw (other, rest) refl)
    go rest other false e = rw e rest

-- nobody reads a name that is not a key
no_values : (h : History) (x : List ℕ) (a : ℕ) (b : ℕ) → is_key h x ≡ false → has_name (reads_from h a b) x ≡ false
no_values h x a b none = elim (cases_lt b (length h.entries)) [
  | inl below ↦ (
      let no : has_name (keys_of (entry_at h b)) x ≡ false = list_any-at (λ e. has_name (keys_of e) x) h.entries none b initial below in
      let parts = or_parts (has_name (entry_at h b).writes x) (has_name (map (λ read. read.0) (entry_at h b).reads) x)
      (sym (list_any-append (bytes_eq x) (entry_at h b).writes (map (λ read. read.0) (entry_at h b).reads)) ∙ no) in
      has_name-filter (λ read. read.1 == a) (entry_at h b).reads x parts.1)
  | inr above ↦ rw (get_or_past h.entries b initial above) refl
]

filter_none : {X : Type 0} (p : X → Bool) (xs : List X) → ((x : X) → p x ≡ false) → filter p xs ≡ []
filter_none p [] none = refl
filter_none p (x ∷ xs) none = rw (none x) (filter_none p xs none)

pub no_readers : (h : History) (x : List ℕ) (a : ℕ) → is_key h x ≡ false → readers h a x ≡ []
no_readers h x a none = filter_none (λ b. has_name (reads_from h a b) x) (numbers h) (λ b. no_values h x a b none)
