-- What is read is a key, and who its writers are.
use Rattle.std.proofs.Common.{ℕ, ◌<◌, ◌≡◌, ◌==◌, Bool, true, false, cond, ◌⊎◌, inl, inr, List, [], ◌∷◌, length, get_or, map, refl, sym, ◌∙◌, subst}
use Rattle.std.proofs.Common.{arith, zero-add, bytes_eq}
use Rattle.std.specs.List.{All, Contains, filter, list_any}
use Rattle.std.proofs.lemmas.Bool.{or_right, or_cases, cond-true}
use Rattle.std.proofs.lemmas.List.{get_or_default}
use Rattle.std.proofs.lemmas.List.Elements.{All-filter, All-contains, All-nil, filter_passes}
use Rattle.std.proofs.lemmas.List.Folds.{list_any_at, list_any-append}
use Rattle.std.proofs.lemmas.List.FromFn.{length-range_with_len, get_or-range_with_len}
use Rattle.std.proofs.lemmas.Slice.Eq.{bytes_eq-Decides}
use Rattle.tcc_txn.proofs.Lists.{in_filter}
use Rattle.tcc_reads.specs.History.{History, count, entry_at, initial}
use Rattle.tcc_graph.specs.Relations.{reads_from, IsReadsPair}
use Rattle.tcc_graph.specs.Keys.{has_name, keys_of, is_key, writes, IsWriter, numbers, writers, keys, key_at}
use Rattle.tcc_graph.proofs.KeysLemmas.{has_name-keys}
use Rattle.tcc_graph.proofs.NameLemmas.{has_name-contains}

-- ---- what is read is a key

-- a test of what a filter kept
list_any_kept : {X Y : Type 0} (test : Y → Bool) (f : X → Y) (p : X → Bool) (xs : List X) → list_any test (map f (filter p xs)) ≡ true
    → list_any test (map f xs) ≡ true
list_any_kept test f p [] h = h
list_any_kept test f p (y ∷ ys) h = go (p y) (list_any_kept test f p ys) h
  where
    first : (list_any test (map f (filter p ys)) ≡ true → list_any test (map f ys) ≡ true) → (test (f y) ≡ true) ⊎ (list_any test (map f (filter p ys)) ≡ true)
        → list_any test (map f (y ∷ ys)) ≡ true
    first rest (inl here) = rw here refl
    first rest (inr later) = or_right _ _ (rest later)

    go : (b : Bool) → (list_any test (map f (filter p ys)) ≡ true → list_any test (map f ys) ≡ true)
        → list_any test (map f (cond b (y ∷ filter p ys) (filter p ys))) ≡ true → list_any test (map f (y ∷ ys)) ≡ true
    go true rest h = first rest (or_cases (test (f y)) (list_any test (map f (filter p ys))) h)
    go false rest h = or_right _ _ (rest h)

pub read_is_key : (h : History) (a c : ℕ) (x : List ℕ) → IsReadsPair h a c x → is_key h x ≡ true
read_is_key h a c x (from, to, (k, within, e)) =
    let named : list_any (bytes_eq x) (reads_from h a c) ≡ true
    = list_any_at (bytes_eq x) (reads_from h a c) k x within ((bytes_eq-Decides x (get_or (reads_from h a c) k x)).1 (sym e)) in
    let read : list_any (bytes_eq x) (map (λ read. read.0) (entry_at h c).reads) ≡ true
    = list_any_kept (bytes_eq x) (λ read. read.0) (λ read. read.1 == a) (entry_at h c).reads named in
    list_any_at (λ e. has_name (keys_of e) x) h.entries c initial to
    (list_any-append (bytes_eq x) (entry_at h c).writes (map (λ read. read.0) (entry_at h c).reads) ∙ or_right _ _ read)

-- what is read is at some index among the keys
pub key_place : (h : History) (a c : ℕ) (x : List ℕ) → IsReadsPair h a c x → (k : ℕ) × (k < length (keys h)) × (key_at h k ≡ x)
key_place h a c x read =
    let w = has_name-contains (keys h) x (has_name-keys h x ∙ read_is_key h a c x read) in
    (w.0, w.1, get_or_default (keys h) w.0 [] x w.1 ∙ w.2)

-- ---- writers

pub numbers_below : (h : History) → All (λ b. b < count h) (numbers h)
numbers_below h =
    λ k d l. subst (λ (z : ℕ). z < count h) (sym (get_or-range_with_len 0 (count h) k d (omega (arith, length-range_with_len 0 (count h)))))
    (omega (arith, length-range_with_len 0 (count h)))

pub number_in : (h : History) (b : ℕ) → b < count h → Contains (numbers h) b
number_in h b l = (b, omega (arith, length-range_with_len 0 (count h)), get_or-range_with_len 0 (count h) b b l ∙ zero-add b)

-- for a key, and for a name that is not a key
by_key : (P : List ℕ → Type 0) (k : Bool) (xs : List ℕ) → P xs → P [] → P (cond k xs [])
by_key P true xs some none = some
by_key P false xs some none = none

pub writers_below : (h : History) (x : List ℕ) → All (λ b. b < count h) (writers h x)
writers_below h x = by_key (λ (bs : List ℕ). All (λ b. b < count h) bs) (is_key h x) (filter (λ b. writes h b x) (numbers h))
    (All-filter (λ b. writes h b x) (λ b. b < count h) (numbers h) (numbers_below h)) (All-nil (λ b. b < count h))

writers_write : (h : History) (x : List ℕ) → All (λ b. writes h b x ≡ true) (writers h x)
writers_write h x = by_key (λ (bs : List ℕ). All (λ b. writes h b x ≡ true) bs) (is_key h x) (filter (λ b. writes h b x) (numbers h))
    (filter_passes (λ b. writes h b x) (numbers h)) (All-nil (λ b. writes h b x ≡ true))

pub writer_writes : (h : History) (x : List ℕ) (b : ℕ) → Contains (writers h x) b → IsWriter h b x
writer_writes h x b there = (
  All-contains (λ b. b < count h) (writers h x) b (writers_below h x) there,
  All-contains (λ b. writes h b x ≡ true) (writers h x) b (writers_write h x) there,
)

pub writer_in : (h : History) (x : List ℕ) (b : ℕ) → is_key h x ≡ true → IsWriter h b x → Contains (writers h x) b
writer_in h x b key (l, w) = subst (λ (bs : List ℕ). Contains bs b) (sym (cond-true (is_key h x) (filter (λ b. writes h b x) (numbers h)) [] key))
    (in_filter (λ b. writes h b x) (numbers h) b (number_in h b l) w)

-- the list has each writer of a key that somebody reads
pub writer_listed : (h : History) (x : List ℕ) (a c b : ℕ) → IsReadsPair h a c x → IsWriter h b x → Contains (writers h x) b
writer_listed h x a c b reads writer = writer_in h x b (read_is_key h a c x reads) writer
