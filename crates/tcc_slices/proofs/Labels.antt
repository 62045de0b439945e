-- No two transactions of a snapshot have one label.
use Rattle.std.proofs.Common.{ℕ, zero, suc, ◌≡◌, ◌<◌, ◌≤◌, ◌+◌, ◌==◌, ◌^◌, ◌%◌, Bool, true, false, List, [], ◌∷◌, ◌++◌, length, map, get_or, sum_by, refl, sym}
use Rattle.std.proofs.Common.{ap, ◌∙◌, arith, codes, decimal}
use Rattle.std.specs.List.{list_any}
use Rattle.std.specs.FinMap.{entries}
use Rattle.std.proofs.lemmas.Bool.{false≢true, or_from, or_right, ne_eqb, cond-false}
use Rattle.std.proofs.lemmas.Fmt.{decimal_by_steps, decimal_injective}
use Rattle.std.proofs.lemmas.List.Folds.{list_any-append}
use Rattle.std.proofs.lemmas.List.FromFn.{get_or-map-range_with_len}
use Rattle.std.proofs.lemmas.List.Sums.{sum_by-cons}
use Rattle.tcc_txn.specs.Finished.{KeepsLimits, transaction_count}
use Rattle.tcc_txn.specs.Snapshots.{Sessions}
use Rattle.tcc_txn.specs.Transactions.{Transaction}
use Rattle.tcc_reads.specs.History.{Entry, History, initial, count, place}
use Rattle.tcc_reads.specs.Sites.{Stand, is_committed, stands_in, stands_from, stands, committed}
use Rattle.tcc_reads.specs.Sources.{entry_of, history}
use Rattle.tcc_reads.proofs.Rising.{Each, each_append, each_filter, each_map, each_at}
use Rattle.tcc_graph.specs.Numbers.{session_name, label}
use Rattle.tcc_graph.specs.Labels.{labels_of}
use Rattle.tcc_slices.proofs.Numbered.{of_number, place_is, name_is, one_name}

-- ---- places are small

-- no session has a place past the last of its transactions
in_session : (session : ℕ) (name : List ℕ) (from bound : ℕ) (txns : List Transaction) → from + length txns ≤ bound + 1
    → Each (λ (x : Stand). x.place ≤ bound) (stands_in session name from txns)
in_session session name from bound [] few = tt
in_session session name from bound (txn ∷ later) few = (omega (arith, few), in_session session name (from + 1) bound later (omega (arith, few)))

in_sessions : (session bound : ℕ) (named : List (List ℕ × List Transaction)) → sum_by (λ e. length e.1) named ≤ bound
    → Each (λ (x : Stand). x.place ≤ bound) (stands_from session named)
in_sessions session bound [] few = tt
in_sessions session bound (e ∷ later) few =
    let parts : sum_by (λ (x : List ℕ × List Transaction). length x.1) (e ∷ later) ≡ length e.1 + sum_by (λ (x : List ℕ × List Transaction). length x.1) later
    = sum_by-cons (λ x. length x.1) e later in
    each_append (λ (x : Stand). x.place ≤ bound) (stands_in session e.0 1 e.1) (stands_from (session + 1) later)
    (in_session session e.0 1 bound e.1 (omega (arith, few, parts))) (in_sessions (session + 1) bound later (omega (arith, few, parts)))

pub place_few : (s : Sessions) (n : ℕ) → n < count (history s) → place (history s) n ≤ transaction_count s
place_few s zero below = omega arith
place_few s (suc i) below =
    each_at (λ (e : Entry). e.place ≤ transaction_count s) (map (entry_of (stands s)) (committed (stands s))) i initial (omega arith)
    (each_map (λ (e : Entry). e.place ≤ transaction_count s) (entry_of (stands s)) (committed (stands s))
    (each_filter (λ (x : Stand). x.place ≤ transaction_count s) is_committed (stands s) (in_sessions 0 (transaction_count s) (entries s) (omega arith))))

-- ---- texts with a slash

abbrev is_slash : ℕ → Bool
is_slash byte = byte == 47

no_slash : (n : ℕ) → n < 2 ^ 64 → list_any is_slash (decimal n) ≡ false
no_slash n small = decimal_by_steps (λ n ds. list_any is_slash ds ≡ false) one more n small
  where
    one : (n : ℕ) → n < 10 → list_any is_slash ((48 + n) ∷ []) ≡ false
    one n low = or_from _ _ (ne_eqb (48 + n) 47 (λ e. omega arith)) refl

    more : (n : ℕ) (ds : List ℕ) → 10 ≤ n → list_any is_slash ds ≡ false → list_any is_slash (ds ++ (48 + n % 10) ∷ []) ≡ false
    more n ds high none = list_any-append is_slash ds ((48 + n % 10) ∷ []) ∙ or_from _ _ none (or_from _ _ (ne_eqb (48 + n % 10) 47 (λ e. omega arith)) refl)

has_slash : (xs ys : List ℕ) → list_any is_slash (xs ++ 47 ∷ ys) ≡ true
has_slash xs ys = list_any-append is_slash xs (47 ∷ ys) ∙ or_right _ _ refl

-- at its last slash a text falls apart in one way
same_parts : (xs ys d e : List ℕ) → list_any is_slash d ≡ false → list_any is_slash e ≡ false → xs ++ 47 ∷ d ≡ ys ++ 47 ∷ e → (xs ≡ ys) × (d ≡ e)
same_parts [] [] d e none other same = (refl, cc)
same_parts [] (y ∷ ys) d e none other same =
    let rest : d ≡ ys ++ 47 ∷ e = cc in
    absurd (false≢true (sym none ∙ ap (list_any is_slash) rest ∙ has_slash ys e))
same_parts (x ∷ xs) [] d e none other same =
    let rest : e ≡ xs ++ 47 ∷ d = cc in
    absurd (false≢true (sym other ∙ ap (list_any is_slash) rest ∙ has_slash xs d))
same_parts (x ∷ xs) (y ∷ ys) d e none other same =
    let first : x ≡ y = cc in
    let rest : xs ++ 47 ∷ d ≡ ys ++ 47 ∷ e = cc in
    let w = same_parts xs ys d e none other rest in
    ((λ i. first i ∷ w.0 i), w.1)

-- ---- labels

pub label_other : (h : History) (n : ℕ) → 0 < n → label h n ≡ session_name h n ++ 47 ∷ decimal (place h n)
label_other h n some = cond-false (n == 0) (codes "init") (session_name h n ++ 47 ∷ decimal (place h n)) (ne_eqb n 0 (λ e. omega arith))

pub label_at : (h : History) (n : ℕ) → n < count h → get_or (labels_of h) n [] ≡ label h n
label_at h n below = get_or-map-range_with_len (label h) 0 (count h) n n [] below (omega arith)

module _ (s : Sessions) (limits : KeepsLimits s) where
  place_small : (n : ℕ) → n < count (history s) → place (history s) n < 2 ^ 64
  place_small n below = omega (arith, place_few s n below, limits.1)

  not_initial : (i : ℕ) → label (history s) 0 ≡ label (history s) (suc i) → ⊥
  not_initial i same =
      let other : label (history s) (suc i) ≡ session_name (history s) (suc i) ++ 47 ∷ decimal (place (history s) (suc i))
      = label_other (history s) (suc i) (omega arith) in
      false≢true (ap (list_any is_slash) (same ∙ other) ∙ has_slash (session_name (history s) (suc i)) (decimal (place (history s) (suc i))))

  -- transactions of one label are one
  pub label_once : (m n : ℕ) → m < count (history s) → n < count (history s) → label (history s) m ≡ label (history s) n → m ≡ n
  label_once zero zero low high same = refl
  label_once zero (suc j) low high same = absurd (not_initial j same)
  label_once (suc i) zero low high same = absurd (not_initial i (sym same))
  label_once (suc i) (suc j) low high same =
      let small = place_small (suc i) low in
      let small' = place_small (suc j) high in
      let w = same_parts (session_name (history s) (suc i)) (session_name (history s) (suc j)) (decimal (place (history s) (suc i)))
      (decimal (place (history s) (suc j)))
      (no_slash (place (history s) (suc i)) small) (no_slash (place (history s) (suc j)) small')
      (sym (label_other (history s) (suc i) (omega arith)) ∙ same ∙ label_other (history s) (suc j) (omega arith)) in
      let t = of_number s (suc i) (omega arith) low in
      let u = of_number s (suc j) (omega arith) high in
      one_name s (suc i) (suc j) t.0 u.0 t.1 u.1 (sym (name_is s (suc i) t.0 t.1) ∙ w.0 ∙ name_is s (suc j) u.0 u.1)
      (sym (place_is s (suc i) t.0 t.1) ∙ decimal_injective (place (history s) (suc i)) (place (history s) (suc j)) small small' w.1
      ∙ place_is s (suc j) u.0 u.1)
