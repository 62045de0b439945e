-- Orders that are picked from the front, always the least number all of whose predecessors were picked. Each is a numbering
-- with all pairs in order, and no such numbering comes before it.
use Rattle.std.proofs.Common.{◌≡◌, ◌<◌, ◌≢◌, ℕ, zero, suc, Bool, true, false, ◌⊎◌, inl, inr, List, [], ◌∷◌, ◌++◌, length, take, get_or, slice_index, eqb, refl}
use Rattle.std.proofs.Common.{sym, ◌∙◌, append_assoc, append-nil, length-append, arith, subst}
use Rattle.std.specs.List.{list_any, IsDistinct, Contains}
use Rattle.std.specs.Cmp.Lexicographic.{slice_cmp}
use Rattle.std.specs.Ordering.{nat_cmp}
use Rattle.std.specs.declared.cmp.Ordering.TheVariants.{Greater}
use Rattle.std.proofs.lemmas.Bool.{or_cases, cases_Bool, cases_order, false≢true, eqb-true, eq-eqb, lt-ltb, le-ltb}
use Rattle.std.proofs.lemmas.List.{get_or_default, get_or-take, length-take-le, get_or_at, get_or_append_left}
use Rattle.std.proofs.lemmas.List.Folds.{list_any_at, list_any-append}
use Rattle.std.proofs.lemmas.Map.Keys.{IsDistinct-push}
use Rattle.std.proofs.lemmas.Map.Steps.{length-le_from_distinct_below}
use Rattle.std.specs.Cmp.{nat_eq_equiv}
use Rattle.tcc_graph.specs.Orders.{Before}
use Rattle.tcc_order.specs.private.Numbering.{IsOrderOf}
use Rattle.tcc_graph.proofs.Numberings.{below_in, has_index, one_index}

-- whether x is in the list
abbrev pub has : List ℕ → ℕ → Bool
has xs x = list_any (eqb x) xs

-- x can be picked after those done
pub record IsFree (precedes : ℕ → ℕ → Bool) (n : ℕ) (done : List ℕ) (x : ℕ) : Type 0 where
  pub below : x < n
  pub new : has done x ≡ false
  pub ready : (a : ℕ) → precedes a x ≡ true → has done a ≡ true

-- the least that can be picked
pub record IsNext (precedes : ℕ → ℕ → Bool) (n : ℕ) (done : List ℕ) (x : ℕ) : Type 0 where
  pub free : IsFree precedes n done x
  pub least : (y : ℕ) → y < x → IsFree precedes n done y → ⊥

-- after those done each number of the list was picked in turn
abbrev pub Picks : (ℕ → ℕ → Bool) → ℕ → List ℕ → List ℕ → Type 0
Picks precedes n done [] = Unit {0}
Picks precedes n done (x ∷ xs) = IsNext precedes n done x × Picks precedes n (done ++ x ∷ []) xs

pub Picks-push : (precedes : ℕ → ℕ → Bool) (n : ℕ) (done xs : List ℕ) (y : ℕ) → Picks precedes n done xs → IsNext precedes n (done ++ xs) y
    → Picks precedes n done (xs ++ y ∷ [])
Picks-push precedes n done [] y p h = (rw (append-nil done) at h, tt)
Picks-push precedes n done (x ∷ xs) y p h = (p.0, Picks-push precedes n (done ++ x ∷ []) xs y p.1 (rw append_assoc h))

Picks-at : (precedes : ℕ → ℕ → Bool) (n : ℕ) (done xs : List ℕ) (i : ℕ) → Picks precedes n done xs → i < length xs
    → IsNext precedes n (done ++ take i xs) (slice_index xs i)
Picks-at precedes n done [] i p l = absurd (omega arith)
Picks-at precedes n done (x ∷ xs) zero p l = rw (append-nil done) p.0
Picks-at precedes n done (x ∷ xs) (suc i) p l = rw (← append_assoc done (x ∷ []) (take i xs)) (Picks-at precedes n (done ++ x ∷ []) xs i p.1 (omega arith))

Picks-distinct : (precedes : ℕ → ℕ → Bool) (n : ℕ) (done xs : List ℕ) → IsDistinct eqb done → Picks precedes n done xs → IsDistinct eqb (done ++ xs)
Picks-distinct precedes n done [] d p = rw (append-nil done) d
Picks-distinct precedes n done (x ∷ xs) d p =
    rw (← append_assoc done (x ∷ []) xs) (Picks-distinct precedes n (done ++ x ∷ []) xs (IsDistinct-push nat_eq_equiv done x d p.0.free.new) p.1)

-- the index of an element
pub place_of : (xs : List ℕ) (x : ℕ) → has xs x ≡ true → (i : ℕ) × (i < length xs) × (slice_index xs i ≡ x)
place_of [] x h = absurd (false≢true h)
place_of (y ∷ xs) x h = go (or_cases (eqb x y) (has xs x) h) (λ t. place_of xs x t)
  where
    go : (eqb x y ≡ true) ⊎ (has xs x ≡ true) → (has xs x ≡ true → (i : ℕ) × (i < length xs) × (slice_index xs i ≡ x))
        → (i : ℕ) × (i < length (y ∷ xs)) × (slice_index (y ∷ xs) i ≡ x)
    go (inl same) rest = (0, omega arith, sym (eqb-true x y same))
    go (inr later) rest = let w = rest later in (suc w.0, omega (arith, w.1), w.2)

pub has_at : (xs : List ℕ) (i x : ℕ) → i < length xs → slice_index xs i ≡ x → has xs x ≡ true
has_at xs i x l e = list_any_at (eqb x) xs i 0 l (eq-eqb x (get_or xs i 0) (sym e))

-- an earlier index of a list has an element of the part before
before_here : (done rest : List ℕ) (i x : ℕ) → i < length done → slice_index (done ++ rest) i ≡ x → has done x ≡ true
before_here done rest i x l e = has_at done i x l (sym (get_or_append_left done rest 0 i l) ∙ e)

-- the next number of an order could be picked next
next_free : (precedes : ℕ → ℕ → Bool) (n : ℕ) (done : List ℕ) (y : ℕ) (ys : List ℕ) → IsOrderOf precedes n (done ++ y ∷ ys) → IsFree precedes n done y
next_free precedes n done y ys h =
    let all = done ++ y ∷ ys in
    let k = length done in
    let long : k < length all = rw length-append (omega arith) in
    let here : slice_index all k ≡ y = get_or_at done y ys 0 k refl in
    record {
      below = subst (λ (z : ℕ). z < n) here (below_in h.numbering k long);
      new = fresh here long;
      ready = λ a p. earlier a here long (h.ordered a y p);
    }
  where
    found : slice_index (done ++ y ∷ ys) (length done) ≡ y → length done < length (done ++ y ∷ ys) → (i : ℕ) × (i < length done) × (slice_index done i ≡ y) → ⊥
    found here long w =
        absurd (omega (
          arith,
          w.1,
          one_index h.numbering w.0 (length done) (omega (arith, w.1)) long
              (get_or_append_left done (y ∷ ys) 0 w.0 w.1 ∙ w.2 ∙ sym here),
        ))

    fresh_by : slice_index (done ++ y ∷ ys) (length done) ≡ y → length done < length (done ++ y ∷ ys) → (has done y ≡ true) ⊎ (has done y ≡ false)
        → has done y ≡ false
    fresh_by here long (inl old) = absurd (found here long (place_of done y old))
    fresh_by here long (inr new) = new

    fresh : slice_index (done ++ y ∷ ys) (length done) ≡ y → length done < length (done ++ y ∷ ys) → has done y ≡ false
    fresh here long = fresh_by here long (cases_Bool (has done y))

    earlier : (a : ℕ) → slice_index (done ++ y ∷ ys) (length done) ≡ y → length done < length (done ++ y ∷ ys) → Before (done ++ y ∷ ys) a y → has done a ≡ true
    earlier a here long (i, j, below, within, at_a, at_y) =
        let same : j ≡ length done = one_index h.numbering j (length done) within long (at_y ∙ sym here) in
        before_here done (y ∷ ys) i a (omega arith) at_a

-- no order comes before one that was picked
pub Picks-first : (precedes : ℕ → ℕ → Bool) (n : ℕ) (done xs ys : List ℕ) → Picks precedes n done xs → IsOrderOf precedes n (done ++ ys)
    → slice_cmp nat_cmp xs ys ≢ Greater
Picks-first precedes n done [] [] p h = λ e. cc
Picks-first precedes n done [] (y ∷ ys) p h = λ e. cc
Picks-first precedes n done (x ∷ xs) [] p h =
    let all : IsOrderOf precedes n done = rw (append-nil done) at h in
    let w = has_index all.numbering x p.0.free.below in
    absurd (false≢true (sym p.0.free.new ∙ has_at done w.0 x w.1 w.2))
Picks-first precedes n done (x ∷ xs) (y ∷ ys) p h =
    go (λ e. Picks-first precedes n (done ++ x ∷ []) xs ys p.1 (rw (append_assoc done (x ∷ []) ys, e) h)) (cases_order x y)
  where
    go : (x ≡ y → slice_cmp nat_cmp xs ys ≢ Greater) → (x ≡ y) ⊎ ((x < y) ⊎ (y < x)) → slice_cmp nat_cmp (x ∷ xs) (y ∷ ys) ≢ Greater
    go rest (inl same) = rw (le-ltb x y (omega arith), eq-eqb x y same) (rest same)
    go rest (inr (inl lower)) = rw (lt-ltb x y lower) (λ e. cc)
    go rest (inr (inr higher)) = absurd (p.0.least y higher (next_free precedes n done y ys h))

has-push : (xs : List ℕ) (x q : ℕ) → has (xs ++ x ∷ []) q ≡ true → (has xs q ≡ true) ⊎ (q ≡ x)
has-push xs x q h = go (or_cases (has xs q) (has (x ∷ []) q) (sym (list_any-append (eqb q) xs (x ∷ [])) ∙ h))
  where
    last : (eqb q x ≡ true) ⊎ (false ≡ true) → q ≡ x
    last (inl same) = eqb-true q x same
    last (inr e) = absurd (false≢true e)

    go : (has xs q ≡ true) ⊎ (has (x ∷ []) q ≡ true) → (has xs q ≡ true) ⊎ (q ≡ x)
    go (inl old) = inl old
    go (inr new) = inr (last (or_cases (eqb q x) false new))

picked_below : (precedes : ℕ → ℕ → Bool) (n : ℕ) (order : List ℕ) → Picks precedes n [] order → (q : ℕ) → has order q ≡ true → q < n
picked_below precedes n order p q h =
    let w = place_of order q h in
    subst (λ (z : ℕ). z < n) w.2 (Picks-at precedes n [] order w.0 p w.1).free.below

IsDistinct-none : IsDistinct eqb []
unfolding IsDistinct
IsDistinct-none = tt

-- all numbers were picked
pub all_picked : (precedes : ℕ → ℕ → Bool) (n : ℕ) (order : List ℕ) → Picks precedes n [] order → length order ≡ n → (x : ℕ) → x < n → has order x ≡ true
all_picked precedes n order p full x l = go (cases_Bool (has order x))
  where
    distinct : IsDistinct eqb order
    distinct = Picks-distinct precedes n [] order IsDistinct-none p

    below : (q : ℕ) → (has order q ≡ true) ⊎ (q ≡ x) → q < n
    below q (inl old) = picked_below precedes n order p q old
    below q (inr same) = omega arith

    go : (has order x ≡ true) ⊎ (has order x ≡ false) → has order x ≡ true
    go (inl there) = there
    go (inr new) =
        absurd (omega (
          arith,
          length-append order (x ∷ []),
          length-le_from_distinct_below (order ++ x ∷ []) (n) (IsDistinct-push nat_eq_equiv order x distinct new) (λ q h. below q (has-push order x q h)),
        ))

-- two indices of what was picked have two numbers
apart : (precedes : ℕ → ℕ → Bool) (n : ℕ) (order : List ℕ) (i j : ℕ) → Picks precedes n [] order → i < j → j < length order
    → slice_index order i ≡ slice_index order j → ⊥
apart precedes n order i j p l within e =
    absurd (false≢true (sym (Picks-at precedes n [] order j p within).free.new
    ∙ has_at (take j order) i (slice_index order j) (rw (length-take-le j order (omega arith)) l) (get_or-take j order i 0 l ∙ e)))

-- the numbers of all pairs are below the count
abbrev pub IsBelow : (ℕ → ℕ → Bool) → ℕ → Type 0
IsBelow precedes n = (a b : ℕ) → precedes a b ≡ true → (a < n) × (b < n)

pub Picks-order : (precedes : ℕ → ℕ → Bool) (n : ℕ) (order : List ℕ) → IsBelow precedes n → Picks precedes n [] order → length order ≡ n
    → IsOrderOf precedes n order
Picks-order precedes n order bounds p full = record {
  numbering = record {
    below = λ i d l. subst (λ (z : ℕ). z < n) (get_or_default order i 0 d l) (Picks-at precedes n [] order i p l).free.below;
    each = λ x l. found x (place_of order x (all_picked precedes n order p full x l));
    once = λ i j l m e. apart precedes n order i j p l m e;
  };
  ordered = λ a b h. ordered a b h (place_of order b (all_picked precedes n order p full b (bounds a b h).1));
}
  where
    found : (x : ℕ) → (i : ℕ) × (i < length order) × (slice_index order i ≡ x) → Contains order x
    found x w = (w.0, w.1, get_or_default order w.0 x 0 w.1 ∙ w.2)

    placed : (a b j : ℕ) → j < length order → slice_index order j ≡ b → (i : ℕ) × (i < length (take j order)) × (slice_index (take j order) i ≡ a)
        → Before order a b
    placed a b j within at_b (i, l, at_a) =
        let low : i < j = omega (arith, length-take-le j order (omega arith)) in
        (i, j, low, within, sym (get_or-take j order i 0 low) ∙ at_a, at_b)

    ordered : (a b : ℕ) → precedes a b ≡ true → (j : ℕ) × (j < length order) × (slice_index order j ≡ b) → Before order a b
    ordered a b h (j, within, at_b) =
        placed a b j within at_b (place_of (take j order) a ((Picks-at precedes n [] order j p within).free.ready a (rw at_b h)))
