-- Rows that are held once, each named by its index, seen as one list of rows.
use Rattle.std.proofs.Common.{◌≡◌, ◌<◌, ℕ, suc, List, [], ◌∷◌, ◌++◌, map, length, length-append, set, slice_index, refl, sym, ap, ◌∙◌, arith}
use Rattle.std.specs.List.{All}
use Rattle.std.proofs.lemmas.List.{get_or-map, map-set, get_or_append_left, get_or_at}
use Rattle.std.proofs.lemmas.List.Elements.{All-set, All-weaker}
use Rattle.tcc_graph.specs.Tables.{row_of}

pub named_row : (rows : List (List ℕ)) (which : List ℕ) (n : ℕ) → n < length which → row_of (map (row_of rows) which) n ≡ row_of rows (slice_index which n)
named_row rows which n l = get_or-map (row_of rows) which n 0 [] l

pub shared_row : (rows : List (List ℕ)) (which : List ℕ) (n other : ℕ) → other < length which
    → map (row_of rows) (set which n (slice_index which other)) ≡ set (map (row_of rows) which) n (row_of (map (row_of rows) which) other)
shared_row rows which n other l =
    map-set (row_of rows) which n (slice_index which other) ∙ ap (λ (r : List ℕ). set (map (row_of rows) which) n r) (sym (named_row rows which other l))

-- one more row
still_named : (rows : List (List ℕ)) (row : List ℕ) (which : List ℕ) → All (λ n. n < length rows) which
    → map (row_of (rows ++ row ∷ [])) which ≡ map (row_of rows) which
still_named rows row [] all = refl
still_named rows row (n ∷ which) all =
    rw (get_or_append_left rows (row ∷ []) [] n (all 0 0 (omega arith)), still_named rows row which (λ k d l. all (suc k) d (omega (arith, l)))) refl

pub own_row : (rows : List (List ℕ)) (row : List ℕ) (which : List ℕ) (n : ℕ) → All (λ n. n < length rows) which
    → map (row_of (rows ++ row ∷ [])) (set which n (length rows)) ≡ set (map (row_of rows) which) n row
own_row rows row which n all =
    map-set (row_of (rows ++ row ∷ [])) which n (length rows)
    ∙ rw (still_named rows row which all, get_or_at rows row [] [] (length rows) refl) refl

pub own_inside : (rows : List (List ℕ)) (row : List ℕ) (which : List ℕ) (n : ℕ) → All (λ n. n < length rows) which
    → All (λ n. n < length (rows ++ row ∷ [])) (set which n (length rows))
own_inside rows row which n all =
    All-set (λ m. m < length (rows ++ row ∷ [])) which n (length rows) (omega (arith, length-append rows (row ∷ [])))
    (All-weaker (λ m. m < length rows) (λ m. m < length (rows ++ row ∷ [])) (λ m l. omega (arith, l, length-append rows (row ∷ []))) which all)
