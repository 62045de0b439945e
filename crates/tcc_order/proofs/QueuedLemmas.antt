-- The least of the numbers that are ready, and what is ready or waits after one more was placed.
use Rattle.std.proofs.Common.{◌≡◌, ◌≢◌, ◌<◌, ◌≤◌, ◌+◌, ◌==◌, ◌&&◌, ◌||◌, ◌⊎◌, ◌↔◌, inl, inr, ℕ, zero, suc, Bool, true, false, List, [], ◌∷◌, ◌++◌, map, length, set, slice_index, nat_lt}
use Rattle.std.proofs.Common.{refl, sym, ap, ◌∙◌, subst, arith}
use Rattle.std.specs.List.{Contains}
use Rattle.std.specs.List.Sorted.{IsPermutation}
use Rattle.std.specs.Ordering.{nat_cmp, is_lt}
use Rattle.std.specs.BinaryHeap.{IsUpperBound}
use Rattle.std.specs.Cmp.{nat_cmp_is}
use Rattle.std.specs.declared.cmp.Ordering.TheVariants.{Less}
use Rattle.std.proofs.lemmas.Bool.{cases_lt, cases_eq, cases_Bool, and_parts, and_from, or_parts, or_cases, lt-ltb, ltb-true, eqb-true, eq-eqb, ne_eqb, false≢true}
use Rattle.std.proofs.lemmas.List.{get_or-set_same, get_or-set_other, length-set, length-map}
use Rattle.std.proofs.lemmas.List.Elements.{Contains-append_left, Contains-append_right, Contains-append_cases, Contains-push, Contains-push_cases}
use Rattle.std.proofs.lemmas.List.Sorted.{Contains-permutation, IsPermutation-sym, length_permutation}
use Rattle.tcc_graph.specs.Tables.{row_of}
use Rattle.tcc_bits.specs.Bits.{is_marked}
use Rattle.tcc_reads.specs.History.{History, count}
use Rattle.tcc_clocks.specs.Parents.{ArePrevious}
use Rattle.tcc_order.specs.private.Held.{holds, IsFreeBy, AreRoots, onward}
use Rattle.tcc_order.specs.private.Queued.{IsPopped, IsQueued, AreQueued, AreSure, IsAny, IsNot}
use Rattle.tcc_order.proofs.Fronts.{AreParentsBy, session_fronts}
use Rattle.tcc_txn.proofs.Lists.{in_map, from_map}

-- ---- the least of a heap
not_less : (a b : ℕ) → is_lt (nat_cmp a b) ≡ false → b ≤ a
not_less a b f = go (cases_lt a b)
  where
    the_test : Less ≡ nat_cmp a b → true ≡ false
    the_test is = ap is_lt is ∙ f

    go : (a < b) ⊎ (b ≤ a) → b ≤ a
    go (inl less) = let is : Less ≡ nat_cmp a b = nat_cmp_is a b Less less in absurd (false≢true (sym (the_test is)))
    go (inr more) = more

pub least_of : {X : Type 0} (f : X → ℕ) (x : X) (xs : List X) → IsUpperBound (λ a b. nat_cmp (f b) (f a)) x xs → (y : ℕ) → Contains (map f xs) y → f x ≤ y
least_of f x [] bound y (k, l, e) = absurd (omega (arith, l))
least_of f x (z ∷ xs) bound y (zero, l, e) = omega (arith, not_less (f z) (f x) bound.0, e)
least_of f x (z ∷ xs) bound y (suc k, l, e) = least_of f x xs bound.1 y (k, omega (arith, l), e)

pub moved_all : {X : Type 0} (f : X → ℕ) (xs ys : List X) → IsPermutation xs ys → (y : ℕ) → Contains (map f xs) y → Contains (map f ys) y
moved_all f xs ys same y there =
    let w = from_map f xs y there in
    subst (λ (z : ℕ). Contains (map f ys) z) w.2 (in_map f ys w.0 (Contains-permutation xs ys w.0 same w.1))

-- an element of a list with one more in front
in_front : {X : Type 0} (f : X → ℕ) (x : X) (xs : List X) (y : ℕ) → Contains (map f (x ∷ xs)) y → Contains (map f xs) y ⊎ (y ≡ f x)
in_front f x xs y (zero, l, e) = inr (sym e)
in_front f x xs y (suc k, l, e) = inl (k, omega (arith, l), e)

behind : {X : Type 0} (f : X → ℕ) (x : X) (xs : List X) (y : ℕ) → Contains (map f xs) y ⊎ (y ≡ f x) → Contains (map f (x ∷ xs)) y
behind f x xs y (inl (k, l, e)) = (suc k, omega (arith, l), e)
behind f x xs y (inr at) = (0, omega arith, sym at)

pub pushed_one : {X : Type 0} (f : X → ℕ) (x : X) (xs ys : List X) → IsPermutation (x ∷ xs) ys → (y : ℕ)
    → Contains (map f ys) y ↔ (Contains (map f xs) y ⊎ (y ≡ f x))
pushed_one f x xs ys same y =
    (λ there. in_front f x xs y (moved_all f ys (x ∷ xs) (IsPermutation-sym (x ∷ xs) ys same) y there), λ w. moved_all f (x ∷ xs) ys same y (behind f x xs y w))

pub popped_one : {X : Type 0} (f : X → ℕ) (x : X) (old new : List X) → IsPermutation old (x ∷ new) → IsUpperBound (λ a b. nat_cmp (f b) (f a)) x old
    → IsPopped (map f old) (f x) (map f new)
popped_one f x old new same bound = record {
  there = back (f x) (0, omega arith, refl);
  least = least_of f x old bound;
  rest = λ y w. turned y (in_front f x new y (moved_all f old (x ∷ new) same y w));
  still = λ y w. back y (behind f x new y (inl w));
  shorter = omega (arith, length_permutation old (x ∷ new) same, length-map new f, length-map old f);
}
  where
    back : (y : ℕ) → Contains (map f (x ∷ new)) y → Contains (map f old) y
    back y w = moved_all f (x ∷ new) old (IsPermutation-sym old (x ∷ new) same) y w

    turned : (y : ℕ) → Contains (map f new) y ⊎ (y ≡ f x) → (y ≡ f x) ⊎ Contains (map f new) y
    turned y (inl there) = inr there
    turned y (inr at) = inl at

-- ---- the numbers that are ready
module _ (precedes : ℕ → ℕ → Bool) (n : ℕ) (ps : List ℕ) (are : AreParentsBy precedes n ps) (placed ready : List ℕ) (waiting : List (List ℕ)) where
  -- what is free is among them
  pub free_ready : AreQueued precedes ps placed IsAny ready waiting → (x : ℕ) → IsFreeBy precedes n placed x → Contains ready x
  free_ready is x free = go (is.all x tt (omega (arith, free.below, are.long)) free.new (front (cases_eq (slice_index ps x) 0)))
    where
      front : (slice_index ps x ≡ 0) ⊎ (slice_index ps x ≢ 0) → (slice_index ps x ≡ 0) ⊎ (is_marked placed (slice_index ps x) ≡ true)
      front (inl none) = inl none
      front (inr some) = inr (free.free (slice_index ps x) (are.held x free.below some))

      go : IsQueued precedes placed ready waiting x → Contains ready x
      go (inl there) = there
      go (inr (b, left, holds, there)) = absurd (false≢true (sym left ∙ free.free b holds))

-- one is taken out
pub queued_popped : (precedes : ℕ → ℕ → Bool) (ps placed old new : List ℕ) (waiting : List (List ℕ)) (x : ℕ) → AreQueued precedes ps placed IsAny old waiting
    → ((y : ℕ) → Contains old y → is_marked placed y ≡ false → (y ≡ x) ⊎ Contains new y) → ((y : ℕ) → Contains new y → Contains old y)
    → AreQueued precedes ps placed (IsNot x) new waiting
queued_popped precedes ps placed old new waiting x is rest still = record {
  long = is.long;
  inside = λ y there. is.inside y (still y there);
  waits = is.waits;
  all = λ y other low left way. go y other left (is.all y tt low left way);
}
  where
    go : (y : ℕ) → (y ≡ x → ⊥) → is_marked placed y ≡ false → IsQueued precedes placed old waiting y → IsQueued precedes placed new waiting y
    go y other left (inl there) = by (rest y there left)
      where
        by : (y ≡ x) ⊎ Contains new y → IsQueued precedes placed new waiting y
        by (inl same) = absurd (other same)
        by (inr still_there) = inl still_there
    go y other left (inr w) = inr w

-- a queue without x is the whole queue if x was placed
pub queued_placed : (precedes : ℕ → ℕ → Bool) (ps placed ready : List ℕ) (waiting : List (List ℕ)) (x : ℕ) → AreQueued precedes ps placed (IsNot x) ready waiting
    → is_marked placed x ≡ true → AreQueued precedes ps placed IsAny ready waiting
queued_placed precedes ps placed ready waiting x is done = record {
  long = is.long;
  inside = is.inside;
  waits = is.waits;
  all = λ y any low left way. is.all y (λ same. false≢true (sym left ∙ subst (λ (z : ℕ). is_marked placed z ≡ true) (sym same) done)) low left way;
}

-- one in front of others
front_still : (x : ℕ) (xs : List ℕ) (y : ℕ) → Contains xs y → Contains (x ∷ xs) y
front_still x xs y (k, l, e) = (suc k, omega (arith, l), e)

front_cases : (x : ℕ) (xs : List ℕ) (y : ℕ) → Contains (x ∷ xs) y → Contains xs y ⊎ (x ≡ y)
front_cases x xs y (zero, l, e) = inr e
front_cases x xs y (suc k, l, e) = inl (k, omega (arith, l), e)

-- or it waits from now on
module _ (precedes : ℕ → ℕ → Bool) (ps placed ready : List ℕ) (waiting : List (List ℕ)) (x b : ℕ) (is : AreQueued precedes ps placed (IsNot x) ready waiting)
    (low : x < length ps) (to : b < length ps) (left : is_marked placed b ≡ false) (held : precedes b x ≡ true) where
  abbrev row : List ℕ
  row = x ∷ row_of waiting b

  here : row_of (set waiting b (x ∷ row_of waiting b)) b ≡ x ∷ row_of waiting b
  here = get_or-set_same waiting b row [] (omega (arith, to, is.long))

  there : (d : ℕ) → d ≢ b → row_of (set waiting b (x ∷ row_of waiting b)) d ≡ row_of waiting d
  there d other = get_or-set_other waiting b d row [] other

  wider : (d y : ℕ) → Contains (row_of waiting d) y → Contains (row_of (set waiting b (x ∷ row_of waiting b)) d) y
  wider d y was = go (cases_eq d b)
    where
      go : (d ≡ b) ⊎ (d ≢ b) → Contains (row_of (set waiting b (x ∷ row_of waiting b)) d) y
      go (inl same) = rw (same, here) (front_still x (row_of waiting b) y (rw same at was))
      go (inr other) = rw (there d other) was

  pub queued_parked : AreQueued precedes ps placed IsAny ready (set waiting b (x ∷ row_of waiting b))
  queued_parked = record {
    long = length-set waiting b row ∙ is.long;
    inside = is.inside;
    waits = λ d y w. kept d y w (cases_eq d b);
    all = λ y any small new way. found y small new way (cases_eq y x);
  }
    where
      kept : (d y : ℕ) → Contains (row_of (set waiting b (x ∷ row_of waiting b)) d) y → (d ≡ b) ⊎ (d ≢ b) → y < length ps
      kept d y w (inr other) = is.waits d y (rw (there d other) at w)
      kept d y w (inl same) = go (front_cases x (row_of waiting b) y (rw (same, here) at w))
        where
          go : Contains (row_of waiting b) y ⊎ (x ≡ y) → y < length ps
          go (inl was) = is.waits b y was
          go (inr at) = rw (← at) low

      found : (y : ℕ) → y < length ps → is_marked placed y ≡ false → (slice_index ps y ≡ 0) ⊎ (is_marked placed (slice_index ps y) ≡ true)
          → (y ≡ x) ⊎ (y ≢ x) → IsQueued precedes placed ready (set waiting b (x ∷ row_of waiting b)) y
      found y small new way (inl same) =
          inr (b, left, rw same held, rw (here, same) (0, omega arith, refl))
      found y small new way (inr other) = go (is.all y other small new way)
        where
          go : IsQueued precedes placed ready waiting y → IsQueued precedes placed ready (set waiting b (x ∷ row_of waiting b)) y
          go (inl w) = inl w
          go (inr (d, unplaced, holds, w)) = inr (d, unplaced, holds, wider d y w)

-- ---- one more is placed, and what waited for it is ready
module _ (precedes : ℕ → ℕ → Bool) (n : ℕ) (ps : List ℕ) (are : AreParentsBy precedes n ps) (placed old new marks : List ℕ) (waiting : List (List ℕ)) (next : ℕ)
    (is : AreQueued precedes ps placed (IsNot next) old waiting) (free : IsFreeBy precedes n placed next)
    (now : (b : ℕ) → is_marked marks b ≡ (is_marked placed b || (b == next)))
    (put : (y : ℕ) → Contains new y → (Contains old y ⊎ Contains (row_of waiting next) y) ⊎ (y ≡ onward ps next))
    (stay : (y : ℕ) → Contains old y → Contains new y) (woken : (y : ℕ) → Contains (row_of waiting next) y → Contains new y)
    (child : Contains new (onward ps next)) where
  abbrev has_child : Bool
  has_child = (nat_lt 0 next && nat_lt (next + 1) (length ps)) && (slice_index ps (next + 1) == next)

  onward_inside : onward ps next < length ps
  onward_inside = go (cases_Bool has_child)
    where
      go : (has_child ≡ true) ⊎ (has_child ≡ false) → onward ps next < length ps
      go (inl t) =
          let w = and_parts (nat_lt 0 next && nat_lt (next + 1) (length ps)) (slice_index ps (next + 1) == next) t in
          let v = and_parts (nat_lt 0 next) (nat_lt (next + 1) (length ps)) w.0 in
          rw t (ltb-true (next + 1) (length ps) v.1)
      go (inr f) = rw f (omega (arith, free.below, are.long))

  -- the child of what was placed
  born : (x : ℕ) → x < length ps → slice_index ps x ≡ next → 0 < next → (slice_index ps x ≡ 0) ⊎ (slice_index ps x + 1 ≡ x) → Contains new x
  born x l at some (inl none) = absurd (omega (arith, at, some, none))
  born x l at some (inr up) =
      let here : x ≡ next + 1 = omega (arith, at, up) in
      let t : has_child ≡ true = and_from _ _ (and_from _ _ (lt-ltb 0 next some) (lt-ltb (next + 1) (length ps) (omega (arith, here, l))))
      (eq-eqb (slice_index ps (next + 1)) next (ap (λ z. slice_index ps z) (sym here) ∙ at)) in
      subst (λ (z : ℕ). Contains new z) (rw t (sym here)) child

  pub queued_next : AreQueued precedes ps marks IsAny new waiting
  queued_next = record {
    long = is.long;
    inside = λ y there. within y (put y there);
    waits = is.waits;
    all = λ y any low left way. let w = or_parts (is_marked placed y) (y == next) (sym (now y) ∙ left) in
        found y low w.0 (λ e. false≢true (sym w.1 ∙ eq-eqb y next e)) way;
  }
    where
      within : (y : ℕ) → (Contains old y ⊎ Contains (row_of waiting next) y) ⊎ (y ≡ onward ps next) → y < length ps
      within y (inl (inl was)) = is.inside y was
      within y (inl (inr was)) = is.waits next y was
      within y (inr at) = rw at onward_inside

      queued : (y : ℕ) → IsQueued precedes placed old waiting y → IsQueued precedes marks new waiting y
      queued y (inl there) = inl (stay y there)
      queued y (inr (b, left, holds, there)) = go (cases_eq b next)
        where
          go : (b ≡ next) ⊎ (b ≢ next) → IsQueued precedes marks new waiting y
          go (inl same) = inl (woken y (rw same at there))
          go (inr other) = inr (b, now b ∙ rw (left, ne_eqb b next other) refl, holds, there)

      found : (y : ℕ) → y < length ps → is_marked placed y ≡ false → (y ≡ next → ⊥)
          → (slice_index ps y ≡ 0) ⊎ (is_marked marks (slice_index ps y) ≡ true) → IsQueued precedes marks new waiting y
      found y low left other (inl none) = queued y (is.all y other low left (inl none))
      found y low left other (inr m) = by (or_cases (is_marked placed (slice_index ps y)) (slice_index ps y == next) (sym (now (slice_index ps y)) ∙ m))
        where
          grown : slice_index ps y ≡ next → (slice_index ps y ≡ 0) ⊎ (slice_index ps y ≢ 0) → IsQueued precedes marks new waiting y
          grown at (inl none) = queued y (is.all y other low left (inl none))
          grown at (inr some) = inl (born y low at (omega (arith, some, at)) (are.near y (omega (arith, low, are.long))))

          by : (is_marked placed (slice_index ps y) ≡ true) ⊎ ((slice_index ps y == next) ≡ true) → IsQueued precedes marks new waiting y
          by (inl was) = queued y (is.all y other low left (inr was))
          by (inr at) = grown (eqb-true (slice_index ps y) next at) (cases_eq (slice_index ps y) 0)

pub queued_after : (precedes : ℕ → ℕ → Bool) (n : ℕ) (ps : List ℕ) (are : AreParentsBy precedes n ps) (placed ready woken marks : List ℕ) (waiting : List (List ℕ))
    (next : ℕ) → AreQueued precedes ps placed (IsNot next) ready waiting → IsFreeBy precedes n placed next
    → ((b : ℕ) → is_marked marks b ≡ (is_marked placed b || (b == next))) → woken ≡ row_of waiting next ++ onward ps next ∷ []
    → AreQueued precedes ps marks IsAny (woken ++ ready) waiting
queued_after precedes n ps are placed ready woken marks waiting next is free now wake =
    queued_next precedes n ps are placed ready (woken ++ ready) marks waiting next is free now (λ y w. put y (Contains-append_cases woken ready y w))
    (λ y w. Contains-append_right woken ready y w)
    (λ y w. Contains-append_left woken ready y (rw wake (Contains-append_left (row_of waiting next) (onward ps next ∷ []) y w)))
    (Contains-append_left woken ready (onward ps next) (rw wake (Contains-push (row_of waiting next) (onward ps next))))
  where
    from : (y : ℕ) → Contains (row_of waiting next) y ⊎ (onward ps next ≡ y) → (Contains ready y ⊎ Contains (row_of waiting next) y) ⊎ (y ≡ onward ps next)
    from y (inl row) = inl (inr row)
    from y (inr at) = inr (sym at)

    put : (y : ℕ) → Contains woken y ⊎ Contains ready y → (Contains ready y ⊎ Contains (row_of waiting next) y) ⊎ (y ≡ onward ps next)
    put y (inl w) = from y (Contains-push_cases (row_of waiting next) (onward ps next) y (rw wake at w))
    put y (inr w) = inl (inl w)

-- all that is ready stays sure after more are placed, and when fewer are ready
pub sure_after : (precedes : ℕ → ℕ → Bool) (placed marks old new : List ℕ) (next : ℕ) → AreSure precedes placed old → ((y : ℕ) → Contains new y → Contains old y)
    → ((b : ℕ) → is_marked marks b ≡ (is_marked placed b || (b == next))) → AreSure precedes marks new
sure_after precedes placed marks old new next sure still now x there b p = now b ∙ rw (sure x (still x there) b p) refl

-- all that is ready is sure after one more free number is ready
pub sure_more : (precedes : ℕ → ℕ → Bool) (placed old new : List ℕ) (x : ℕ) → AreSure precedes placed old → ((b : ℕ) → precedes b x ≡ true → is_marked placed b ≡ true)
    → ((y : ℕ) → Contains new y ↔ (Contains old y ⊎ (y ≡ x))) → AreSure precedes placed new
sure_more precedes placed old new x sure free put y there b p = go ((put y).0 there)
  where
    go : Contains old y ⊎ (y ≡ x) → is_marked placed b ≡ true
    go (inl was) = sure y was b p
    go (inr at) = free b (rw at at p)

-- nothing is placed, and the roots are woken
pub queued_begin : (precedes : ℕ → ℕ → Bool) (ps placed woken ready : List ℕ) (waiting : List (List ℕ)) → length waiting ≡ length ps
    → ((b x : ℕ) → Contains (row_of waiting b) x → ⊥) → ((x : ℕ) → Contains ready x → ⊥) → ((b : ℕ) → is_marked placed b ≡ false)
    → ((x : ℕ) → Contains woken x → x < length ps) → ((x : ℕ) → x < length ps → slice_index ps x ≡ 0 → Contains woken x)
    → AreQueued precedes ps placed IsAny (woken ++ ready) waiting
queued_begin precedes ps placed woken ready waiting long none no_ready empty inside roots = record {
  long = long;
  inside = λ x there. within x (Contains-append_cases woken ready x there);
  waits = λ b x there. absurd (none b x there);
  all = λ x any low left way. go x low way;
}
  where
    within : (x : ℕ) → Contains woken x ⊎ Contains ready x → x < length ps
    within x (inl there) = inside x there
    within x (inr there) = absurd (no_ready x there)

    go : (x : ℕ) → x < length ps → (slice_index ps x ≡ 0) ⊎ (is_marked placed (slice_index ps x) ≡ true)
        → IsQueued precedes placed (woken ++ ready) waiting x
    go x low (inl root) = inl (Contains-append_left woken ready x (roots x low root))
    go x low (inr m) = absurd (false≢true (sym (empty (slice_index ps x)) ∙ m))

-- ---- roots
pub roots_none : (ps ready : List ℕ) → ((x : ℕ) → Contains ready x → ⊥) → AreRoots ps 0 ready
roots_none ps ready none x = (λ there. absurd (none x there), λ w. absurd (omega (arith, w.0)))

pub roots_skip : (ps ready : List ℕ) (n : ℕ) → AreRoots ps n ready → slice_index ps n ≢ 0 → AreRoots ps (n + 1) ready
roots_skip ps ready n are other x = (λ there. let w = (are x).0 there in (omega (arith, w.0), w.1), λ w. go w.0 w.1 (cases_eq x n))
  where
    go : x < n + 1 → slice_index ps x ≡ 0 → (x ≡ n) ⊎ (x ≢ n) → Contains ready x
    go l root (inl at) = absurd (other (ap (λ z. slice_index ps z) (sym at) ∙ root))
    go l root (inr apart) = (are x).1 (omega (arith, l, apart), root)

pub pushed_here : (old new : List ℕ) (n : ℕ) → new ≡ old ++ n ∷ [] → (x : ℕ) → Contains new x ↔ (Contains old x ⊎ (x ≡ n))
pushed_here old new n is x = rw is ((λ there. to (Contains-push_cases old n x there)), back)
  where
    to : Contains old x ⊎ (n ≡ x) → Contains old x ⊎ (x ≡ n)
    to (inl was) = inl was
    to (inr at) = inr (sym at)

    back : Contains old x ⊎ (x ≡ n) → Contains (old ++ n ∷ []) x
    back (inl was) = Contains-append_left old (n ∷ []) x was
    back (inr at) = rw at (Contains-push old n)

pub roots_more : (ps old new : List ℕ) (n : ℕ) → AreRoots ps n old → slice_index ps n ≡ 0 → ((x : ℕ) → Contains new x ↔ (Contains old x ⊎ (x ≡ n)))
    → AreRoots ps (n + 1) new
roots_more ps old new n are root put x = (λ there. from ((put x).0 there), λ w. (put x).1 (to w.0 w.1 (cases_eq x n)))
  where
    from : Contains old x ⊎ (x ≡ n) → (x < n + 1) × (slice_index ps x ≡ 0)
    from (inl was) = let w = (are x).0 was in (omega (arith, w.0), w.1)
    from (inr at) = (omega (arith, at), rw at root)

    to : x < n + 1 → slice_index ps x ≡ 0 → (x ≡ n) ⊎ (x ≢ n) → Contains old x ⊎ (x ≡ n)
    to l zero_parent (inl at) = inr at
    to l zero_parent (inr apart) = inl ((are x).1 (omega (arith, l, apart), zero_parent))

-- ---- those that are woken
-- other numbers are ready, and all that were before
pub queued_wider : (precedes : ℕ → ℕ → Bool) (ps placed old new : List ℕ) (waiting : List (List ℕ)) → AreQueued precedes ps placed IsAny old waiting
    → ((y : ℕ) → Contains old y → Contains new y) → ((y : ℕ) → Contains new y → Contains old y) → AreQueued precedes ps placed IsAny new waiting
queued_wider precedes ps placed old new waiting is more still = record {
  long = is.long;
  inside = λ y there. is.inside y (still y there);
  waits = is.waits;
  all = λ y any low left way. go y (is.all y any low left way);
}
  where
    go : (y : ℕ) → IsQueued precedes placed old waiting y → IsQueued precedes placed new waiting y
    go y (inl there) = inl (more y there)
    go y (inr w) = inr w

-- the last one that was woken, and the others
pub last_woken : (rest ready : List ℕ) (x y : ℕ) → Contains ((rest ++ x ∷ []) ++ ready) y → (y ≡ x) ⊎ Contains (rest ++ ready) y
last_woken rest ready x y there = go (Contains-append_cases (rest ++ x ∷ []) ready y there)
  where
    by : Contains rest y ⊎ (x ≡ y) → (y ≡ x) ⊎ Contains (rest ++ ready) y
    by (inl was) = inr (Contains-append_left rest ready y was)
    by (inr at) = inl (sym at)

    go : Contains (rest ++ x ∷ []) y ⊎ Contains ready y → (y ≡ x) ⊎ Contains (rest ++ ready) y
    go (inl woken) = by (Contains-push_cases rest x y woken)
    go (inr was) = inr (Contains-append_right rest ready y was)

pub other_woken : (rest ready : List ℕ) (x y : ℕ) → Contains (rest ++ ready) y → Contains ((rest ++ x ∷ []) ++ ready) y
other_woken rest ready x y there = go (Contains-append_cases rest ready y there)
  where
    go : Contains rest y ⊎ Contains ready y → Contains ((rest ++ x ∷ []) ++ ready) y
    go (inl woken) = Contains-append_left (rest ++ x ∷ []) ready y (Contains-append_left rest (x ∷ []) y woken)
    go (inr was) = Contains-append_right (rest ++ x ∷ []) ready y was

-- it is ready
pub queued_ready : (precedes : ℕ → ℕ → Bool) (ps placed rest ready new : List ℕ) (waiting : List (List ℕ)) (x : ℕ)
    → AreQueued precedes ps placed IsAny ((rest ++ x ∷ []) ++ ready) waiting → ((y : ℕ) → Contains new y ↔ (Contains ready y ⊎ (y ≡ x)))
    → AreQueued precedes ps placed IsAny (rest ++ new) waiting
queued_ready precedes ps placed rest ready new waiting x is put =
    queued_wider precedes ps placed ((rest ++ x ∷ []) ++ ready) (rest ++ new) waiting is (λ y there. to y (last_woken rest ready x y there))
    (λ y there. from y (Contains-append_cases rest new y there))
  where
    old : (y : ℕ) → Contains rest y ⊎ Contains ready y → Contains (rest ++ new) y
    old y (inl woken) = Contains-append_left rest new y woken
    old y (inr was) = Contains-append_right rest new y ((put y).1 (inl was))

    to : (y : ℕ) → (y ≡ x) ⊎ Contains (rest ++ ready) y → Contains (rest ++ new) y
    to y (inl at) = Contains-append_right rest new y ((put y).1 (inr at))
    to y (inr there) = old y (Contains-append_cases rest ready y there)

    by : (y : ℕ) → Contains ready y ⊎ (y ≡ x) → Contains ((rest ++ x ∷ []) ++ ready) y
    by y (inl was) = Contains-append_right (rest ++ x ∷ []) ready y was
    by y (inr at) = Contains-append_left (rest ++ x ∷ []) ready y (rw at (Contains-push rest x))

    from : (y : ℕ) → Contains rest y ⊎ Contains new y → Contains ((rest ++ x ∷ []) ++ ready) y
    from y (inl woken) = other_woken rest ready x y (Contains-append_left rest ready y woken)
    from y (inr is_new) = by y ((put y).0 is_new)

-- ---- by the kept links
-- what can come next is ready
pub all_ready : (h : History) (kept : List (List ℕ)) (ps : List ℕ) → ArePrevious h ps → {placed ready : List ℕ} {waiting : List (List ℕ)}
    → AreQueued (holds h kept) ps placed IsAny ready waiting → (x : ℕ) → IsFreeBy (holds h kept) (count h) placed x → Contains ready x
all_ready h kept ps are {placed} {ready} {waiting} is x free =
    free_ready (holds h kept) (count h) ps (session_fronts h kept ps are) placed ready waiting is x free
