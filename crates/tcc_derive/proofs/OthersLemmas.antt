-- The numbers that pass the test of others are the others of a transaction.
use Rattle.std.proofs.Common.{ℕ, zero, suc, ◌<◌, ◌≡◌, ◌≢◌, ◌≤◌, ◌==◌, ◌⊎◌, inl, inr, Bool, true, false, not, ◌&&◌, cond}
use Rattle.std.proofs.Common.{if◌then◌else◌, length, List, [], ◌∷◌, ◌++◌, slice_index, get_or, Option, None, Some, refl, sym, ap, ◌∙◌}
use Rattle.std.proofs.Common.{subst, arith, eq-eqb}
use Rattle.std.specs.Prelude.{Contains, All, nat_lt}
use Rattle.std.specs.List.{AllPairs}
use Rattle.std.specs.List.Sorted.{IsNonDecreasingBy, IsPartitionPoint}
use Rattle.std.proofs.lemmas.List.Sorted.{IsNonDecreasingBy-from_default}
use Rattle.std.proofs.lemmas.List.{append-nil}
use Rattle.std.proofs.lemmas.List.Kept.{AllPairs-cons}
use Rattle.std.proofs.lemmas.Bool.{cases_eq, cases_lt, lt-ltb, ltb-true, ltb-false, or_cases}
use Rattle.std.proofs.lemmas.Bool.{and_parts, and_from, or_left, or_right, ne_eqb, not-true}
use Rattle.std.proofs.lemmas.Bool.{false≢true}
use Rattle.std.proofs.lemmas.List.Elements.{Contains-append_left, Contains-push, Contains-append_cases, All-nil, All-cons, All-append}
use Rattle.tcc_reads.specs.History.{History, count}
use Rattle.tcc_graph.specs.Relations.{IsSessionPair, IsReadsPair, reads_from, has_items}
use Rattle.tcc_graph.specs.Links.{IsReason}
use Rattle.tcc_graph.specs.Levels.{Judged}
use Rattle.tcc_graph.specs.declared.link.Link.{Link}
use Rattle.tcc_graph.specs.declared.link.Link.TheVariants as link
use Rattle.tcc_graph.specs.Tables.{row_of}
use Rattle.tcc_graph.proofs.Linking.{some_cost}
use Rattle.tcc_graph.proofs.Pairs.{first_item, some_items}
use Rattle.tcc_near.specs.WalkLengths.{least_in}
use Rattle.tcc_near.specs.declared.walk_lengths.TheConstants.{NONE}
use Rattle.tcc_near.proofs.BreadthLemmas.{Read, read}
use Rattle.tcc_derive.specs.Prices.{Tables, IsPrice, IsCost, IsLinkOf, IsOther, HasOthers, IsLater, IsEnd, price_at, cost_at, cost_among, end_of, others_at}
use Rattle.tcc_derive.specs.private.Others.{is_other, others_below}
use Rattle.tcc_derive.specs.private.Rows.{IsPriceRow, IsCostRow}
use Rattle.tcc_derive.proofs.CostLemmas.{link_of, session_cost}

module _ (h : History) (u : ℕ) (prices costs : List ℕ) where
  passed : (n v c : ℕ) → Contains (others_below h u prices costs n) (v, c) → (v < n) × (is_other h u prices costs v ≡ true) × (c ≡ slice_index costs v)
  passed zero v c (k, l, e) = absurd (omega arith)
  passed (suc n) v c there =
      go (λ before. passed n v c before) (Contains-append_cases (others_below h u prices costs n)
      (cond (is_other h u prices costs n) ((n, slice_index costs n) ∷ []) []) (v, c) there)
    where
      here : (t : Bool) → is_other h u prices costs n ≡ t → Contains {X = ℕ × ℕ} (cond t ((n, slice_index costs n) ∷ []) []) (v, c)
          → (v < suc n) × (is_other h u prices costs v ≡ true) × (c ≡ slice_index costs v)
      here false e (k, l, same) = absurd (omega arith)
      here true e (zero, l, same) =
          let number : v ≡ n = sym (ap (λ (p : ℕ × ℕ). p.0) same) in
          let cost : c ≡ slice_index costs n = sym (ap (λ (p : ℕ × ℕ). p.1) same) in
          (omega (arith, number), subst (λ (w : ℕ). is_other h u prices costs w ≡ true) (sym number) e, cost ∙ ap (λ w. slice_index costs w) (sym number))
      here true e (suc k, l, same) = absurd (omega arith)

      go : (Contains (others_below h u prices costs n) (v, c) → (v < n) × (is_other h u prices costs v ≡ true) × (c ≡ slice_index costs v))
          → Contains (others_below h u prices costs n) (v, c)
          ⊎ Contains {X = ℕ × ℕ} (cond (is_other h u prices costs n) ((n, slice_index costs n) ∷ []) []) (v, c)
          → (v < suc n) × (is_other h u prices costs v ≡ true) × (c ≡ slice_index costs v)
      go f (inl before) = let w = f before in (omega (arith, w.0), w.1, w.2)
      go f (inr last) = here (is_other h u prices costs n) refl last

  pub kept : (n v : ℕ) → v < n → is_other h u prices costs v ≡ true → Contains (others_below h u prices costs n) (v, slice_index costs v)
  kept zero v low e = absurd (omega arith)
  kept (suc n) v low e = go (λ before. kept n v before e) (cases_eq v n)
    where
      go : (v < n → Contains (others_below h u prices costs n) (v, slice_index costs v)) → (v ≡ n) ⊎ (v ≢ n)
          → Contains (others_below h u prices costs (suc n)) (v, slice_index costs v)
      go f (inl is) =
          rw (← is) (rw e (Contains-push (others_below h u prices costs v) (v, slice_index costs v)))
      go f (inr other) =
          let before : v < n = omega (arith, other, low) in
          Contains-append_left (others_below h u prices costs n) (cond (is_other h u prices costs n) ((n, slice_index costs n) ∷ []) [])
          (v, slice_index costs v) (f before)

module _ (h : History) (u : ℕ) where
  pub below : (prices costs : List ℕ) (n : ℕ) → All (λ (p : ℕ × ℕ). p.0 < n) (others_below h u prices costs n)
  below prices costs zero = All-nil (λ (p : ℕ × ℕ). p.0 < zero)
  below prices costs (suc n) =
      All-append (λ (p : ℕ × ℕ). p.0 < suc n) (others_below h u prices costs n) (cond (is_other h u prices costs n) ((n, slice_index costs n) ∷ []) [])
      (λ k d l. let low : (get_or (others_below h u prices costs n) k d).0 < n = below prices costs n k d l in omega (arith, low))
      (last (is_other h u prices costs n))
    where
      last : (t : Bool) → All (λ (p : ℕ × ℕ). p.0 < suc n) (cond t ((n, slice_index costs n) ∷ []) [])
      last true = All-cons (λ (p : ℕ × ℕ). p.0 < suc n) (n, slice_index costs n) [] (omega arith) (All-nil (λ (p : ℕ × ℕ). p.0 < suc n))
      last false = All-nil (λ (p : ℕ × ℕ). p.0 < suc n)

  rise : (xs : List (ℕ × ℕ)) (n c : ℕ) → All (λ (p : ℕ × ℕ). p.0 < n) xs → AllPairs (λ (p q : ℕ × ℕ). p.0 < q.0) xs
      → AllPairs (λ (p q : ℕ × ℕ). p.0 < q.0) (xs ++ (n, c) ∷ [])
  rise [] n c low pairs = AllPairs-cons (λ (p q : ℕ × ℕ). p.0 < q.0) (n, c) [] (All-nil (λ (q : ℕ × ℕ). n < q.0)) pairs
  rise (x ∷ xs) n c low pairs =
      AllPairs-cons (λ (p q : ℕ × ℕ). p.0 < q.0) x (xs ++ (n, c) ∷ [])
      (All-append (λ (q : ℕ × ℕ). x.0 < q.0) xs ((n, c) ∷ []) (λ k d l. pairs 0 (suc k) d (omega arith) (omega arith))
      (All-cons (λ (q : ℕ × ℕ). x.0 < q.0) (n, c) [] (low 0 x (omega arith)) (All-nil (λ (q : ℕ × ℕ). x.0 < q.0))))
      (rise xs n c (λ k d l. low (suc k) d (omega arith)) (λ i k d l m. pairs (suc i) (suc k) d (omega arith) (omega arith)))

  pub ascends : (prices costs : List ℕ) (n : ℕ) → AllPairs (λ (p q : ℕ × ℕ). p.0 < q.0) (others_below h u prices costs n)
  ascends prices costs zero = λ i k d l m. absurd (omega arith)
  ascends prices costs (suc n) = go (is_other h u prices costs n) (ascends prices costs n)
    where
      go : (t : Bool) → AllPairs (λ (p q : ℕ × ℕ). p.0 < q.0) (others_below h u prices costs n)
          → AllPairs (λ (p q : ℕ × ℕ). p.0 < q.0) (others_below h u prices costs n ++ cond t ((n, slice_index costs n) ∷ []) [])
      go true so_far = rise (others_below h u prices costs n) n (slice_index costs n) (below prices costs n) so_far
      go false so_far = rw (append-nil (others_below h u prices costs n)) so_far

-- ---- what is beside a number in a list

among_append : (xs ys : List (ℕ × ℕ)) (v : ℕ) → cost_among xs v ≡ None → cost_among (xs ++ ys) v ≡ cost_among ys v
among_append [] ys v none = refl
among_append (p ∷ xs) ys v none = go (p.0 == v) refl (λ rest. among_append xs ys v rest)
  where
    go : (t : Bool) → (p.0 == v) ≡ t → (cost_among xs v ≡ None → cost_among (xs ++ ys) v ≡ cost_among ys v) → cost_among (p ∷ xs ++ ys) v ≡ cost_among ys v
    go true e f = absurd (let some : Some p.1 ≡ None = rw e at none in cc)
    go false e f = rw e (f (rw e at none))

among_before : (xs ys : List (ℕ × ℕ)) (v c : ℕ) → cost_among xs v ≡ Some c → cost_among (xs ++ ys) v ≡ Some c
among_before [] ys v c some = absurd cc
among_before (p ∷ xs) ys v c some = go (p.0 == v) refl (λ rest. among_before xs ys v c rest)
  where
    go : (t : Bool) → (p.0 == v) ≡ t → (cost_among xs v ≡ Some c → cost_among (xs ++ ys) v ≡ Some c) → cost_among (p ∷ xs ++ ys) v ≡ Some c
    go true e f = rw e (rw e at some)
    go false e f = rw e (f (rw e at some))

-- if all numbers are lower
among_lower : (xs : List (ℕ × ℕ)) (v : ℕ) → All (λ (p : ℕ × ℕ). p.0 < v) xs → cost_among xs v ≡ None
among_lower [] v low = refl
among_lower (p ∷ xs) v low =
    let less : p.0 < v = low 0 p (omega arith) in
    rw (ne_eqb p.0 v (λ e. absurd (omega (arith, e, less)))) (among_lower xs v (λ k d l. low (suc k) d (omega arith)))

-- what passes is in the list with its cost, and nothing else is
among_kept : (h : History) (u : ℕ) (prices costs : List ℕ) (n v : ℕ) → v < n → is_other h u prices costs v ≡ true
    → cost_among (others_below h u prices costs n) v ≡ Some (slice_index costs v)
among_kept h u prices costs zero v low e = absurd (omega arith)
among_kept h u prices costs (suc n) v low e = go (λ before. among_kept h u prices costs n v before e) (cases_eq v n)
  where
    go : (v < n → cost_among (others_below h u prices costs n) v ≡ Some (slice_index costs v)) → (v ≡ n) ⊎ (v ≢ n)
        → cost_among (others_below h u prices costs (suc n)) v ≡ Some (slice_index costs v)
    go f (inl is) =
        rw (← is) (rw e (among_append (others_below h u prices costs v) ((v, slice_index costs v) ∷ []) v
        (among_lower (others_below h u prices costs v) v (below h u prices costs v)) ∙ rw (eq-eqb v v refl) refl))
    go f (inr other) =
        among_before (others_below h u prices costs n) (cond (is_other h u prices costs n) ((n, slice_index costs n) ∷ []) []) v (slice_index costs v)
        (f (omega (arith, other, low)))

among_none : (h : History) (u : ℕ) (prices costs : List ℕ) (n v : ℕ) → is_other h u prices costs v ≡ false
    → cost_among (others_below h u prices costs n) v ≡ None
among_none h u prices costs zero v e = refl
among_none h u prices costs (suc n) v e =
    among_append (others_below h u prices costs n) (cond (is_other h u prices costs n) ((n, slice_index costs n) ∷ []) []) v
    (among_none h u prices costs n v e) ∙ last (is_other h u prices costs n) refl
  where
    last : (t : Bool) → is_other h u prices costs n ≡ t → cost_among (cond t ((n, slice_index costs n) ∷ []) []) v ≡ None
    last false f = refl
    last true f = rw (ne_eqb n v (λ same. absurd (false≢true (sym e ∙ subst (λ (w : ℕ). is_other h u prices costs w ≡ true) same f)))) refl

-- if v is not later in the session, the cost is the one among the others
pub cost_other : (t : Tables) (u v : ℕ) → (IsLater t u v → ⊥) → cost_at t u v ≡ cost_among (others_at t u) v
unfolding cost_at
cost_other t u v not_later = go (nat_lt u v && nat_lt v (end_of t u)) refl
  where
    go : (b : Bool) → (nat_lt u v && nat_lt v (end_of t u)) ≡ b
        → (if nat_lt u v && nat_lt v (end_of t u) then Some 1 else cost_among (others_at t u) v) ≡ cost_among (others_at t u) v
    go false e = rw e refl
    go true e = let w = and_parts (nat_lt u v) (nat_lt v (end_of t u)) e in
        absurd (not_later (omega (arith, ltb-true u v w.0), ltb-true v (end_of t u) w.1))

pub cost_later : (t : Tables) (u v : ℕ) → IsLater t u v → cost_at t u v ≡ Some 1
unfolding cost_at
cost_later t u v later = rw (and_from (nat_lt u v) (nat_lt v (end_of t u)) (lt-ltb u v (omega (arith, later.0))) (lt-ltb v (end_of t u) later.1)) refl

module _ (j : Judged) (t : Tables) (u : ℕ) (from : u < count j.history) (priced : IsPriceRow j u (row_of t.prices u)) (costs : List ℕ)
    (costed : IsCostRow j u costs)
    (ended : IsEnd j.history u (end_of t u)) (is : others_at t u ≡ others_below j.history u (row_of t.prices u) costs (count j.history)) where
  abbrev row : List (ℕ × ℕ)
  row = others_below j.history u (row_of t.prices u) costs (count j.history)

  abbrev IsWhy : ℕ → Type 0
  IsWhy v = ((x : List ℕ) × IsReadsPair j.history u v x) ⊎ ((n : ℕ) × (price_at t u v ≡ Some n))

  -- what reads from u or has a price passes
  passes : (v c : ℕ) → IsCost j u v (Some c) → slice_index costs v ≡ c → IsWhy v → Read (row_of t.prices u) v
      → is_other j.history u (row_of t.prices u) costs v ≡ true
  passes v c least cost (inl (x, pair)) r =
      let low = least.least (link.Reads u v x) (record { from = refl; to = refl; link = pair }) in
      let some = some_cost least.attained.0 in
      let one : slice_index costs v ≡ 1 = omega (arith, cost, low, some, least.attained.2) in
      or_right _ _ (and_from _ _ (eq-eqb _ _ one) (some_items (reads_from j.history u v) x pair.2))
  passes v c least cost (inr (n, p)) (inl w) = absurd (let none : None ≡ Some n = sym w.1 ∙ p in cc)
  passes v c least cost (inr (n, p)) (inr w) = or_left _ _ (ap not (ne_eqb _ _ w.0))

  -- what passes has a price, or reads from u
  why : (v : ℕ) → v < count j.history → is_other j.history u (row_of t.prices u) costs v ≡ true → IsWhy v
  why v to other = go (or_cases (not (slice_index (row_of t.prices u) v == NONE)) ((slice_index costs v == 1) && has_items (reads_from j.history u v)) other)
    where
      go : (not (slice_index (row_of t.prices u) v == NONE) ≡ true) ⊎ (((slice_index costs v == 1) && has_items (reads_from j.history u v)) ≡ true) → IsWhy v
      go (inl some) = go' (read (row_of t.prices u) v)
        where
          go' : Read (row_of t.prices u) v → IsWhy v
          go' (inl w) = absurd (false≢true (sym (not-true _ some) ∙ eq-eqb _ _ w.0))
          go' (inr w) = inr (slice_index (row_of t.prices u) v, w.1)
      go (inr reads) =
          let w = and_parts (slice_index costs v == 1) (has_items (reads_from j.history u v)) reads in
          let first = first_item (reads_from j.history u v) w.1 in
          inl (first.0, (from, to, first.1))

  -- then a link leads there
  some_link : (v : ℕ) → v < count j.history → IsWhy v → (l : Link) × IsLinkOf j u v l
  some_link v to (inl (x, pair)) = (link.Reads u v x, record { from = refl; to = refl; link = pair })
  some_link v to (inr (n, p)) =
      let least : IsPrice j u v (Some n) = subst (λ (o : Option ℕ). IsPrice j u v o) p (priced.priced v to) in
      (least.attained.0, link_of j u v least.attained.0 least.attained.1)

  -- what a link leads to that is not a session link
  by_link : (v : ℕ) → v < count j.history → (IsLater t u v → ⊥) → (l : Link) → IsLinkOf j u v l → IsWhy v
  by_link v to far (link.Session a b) w =
      let pair : IsSessionPair j.history u v = rw (w.from, w.to) at w.link in
      absurd (far ((ended.pairs v).0 pair))
  by_link v to far (link.Reads a b x) w =
      let pair : IsReadsPair j.history u v x = rw (w.from, w.to) at w.link in
      inl (x, pair)
  by_link v to far (link.Derived b a x d walk) w =
      let reason : IsReason j u v x d walk = rw (w.from, w.to) at w.link in
      go (price_at t u v) refl (priced.priced v to)
    where
      go : (o : Option ℕ) → price_at t u v ≡ o → IsPrice j u v o → IsWhy v
      go None e none = absurd (none (link.Derived u v x d walk) (x, d, walk, refl, rw (w.from, w.to) at w.link))
      go (Some n) e least = inr (n, e)

  -- the cost is what the row of costs has
  pub cost_is : (v : ℕ) → v < count j.history → cost_at t u v ≡ least_in costs v
  cost_is v to = go (cases_lt u v) (cases_lt v (end_of t u))
    where
      far : (IsLater t u v → ⊥) → cost_at t u v ≡ least_in costs v
      far not_later =
          cost_other t u v not_later ∙ (ap (λ (xs : List (ℕ × ℕ)). cost_among xs v) is ∙ by (is_other j.history u (row_of t.prices u) costs v) refl
          (read costs v) (costed.costed v to))
        where
          by : (b : Bool) → is_other j.history u (row_of t.prices u) costs v ≡ b → Read costs v → IsCost j u v (least_in costs v)
              → cost_among row v ≡ least_in costs v
          by true e (inl w) cost = absurd (let l = some_link v to (why v to e) in (subst (λ (o : Option ℕ). IsCost j u v o) w.1 cost) l.0 l.1)
          by true e (inr w) cost = among_kept j.history u (row_of t.prices u) costs (count j.history) v to e ∙ sym w.1
          by false e (inl w) cost = among_none j.history u (row_of t.prices u) costs (count j.history) v e ∙ sym w.1
          by false e (inr w) cost =
              let least : IsCost j u v (Some (slice_index costs v)) = subst (λ (o : Option ℕ). IsCost j u v o) w.1 cost in
              let l = least.attained in
              absurd (false≢true (sym e ∙ passes v (slice_index costs v) least refl (by_link v to not_later l.0 l.1) (read (row_of t.prices u) v)))

      go : (u < v) ⊎ (v ≤ u) → (v < end_of t u) ⊎ (end_of t u ≤ v) → cost_at t u v ≡ least_in costs v
      go (inl less) (inl within) =
          let later : IsLater t u v = (omega arith, within) in
          cost_later t u v later ∙ sym (session_cost j u v ((ended.pairs v).1 later) (least_in costs v) (costed.costed v to))
      go (inl less) (inr past) = far (λ w. absurd (omega (arith, w.1)))
      go (inr more) _ = far (λ w. absurd (omega (arith, w.0)))

  pub only : (v c : ℕ) → Contains row (v, c) → IsOther j t u v × (cost_at t u v ≡ Some c)
  only v c there =
      let found = passed j.history u (row_of t.prices u) costs (count j.history) v c there in
      let reason : IsWhy v = why v found.0 found.1 in (
        record { below = found.0; why = reason },
        cost_is v found.0
            ∙ (go (some_link v found.0 reason) (read costs v) (costed.costed v found.0) ∙ ap Some (sym found.2)),
      )
    where
      go : (l : Link) × IsLinkOf j u v l → Read costs v → IsCost j u v (least_in costs v) → least_in costs v ≡ Some (slice_index costs v)
      go l (inl w) cost = absurd ((subst (λ (o : Option ℕ). IsCost j u v o) w.1 cost) l.0 l.1)
      go l (inr w) cost = w.1

  pub each : (v c : ℕ) → IsOther j t u v → cost_at t u v ≡ Some c → Contains row (v, c)
  each v c other e = go (read costs v)
    where
      stands : least_in costs v ≡ Some c
      stands = sym (cost_is v other.below) ∙ e

      least : IsCost j u v (Some c)
      least = subst (λ (o : Option ℕ). IsCost j u v o) stands (costed.costed v other.below)

      go : Read costs v → Contains row (v, c)
      go (inl w) = absurd (let none : None ≡ Some c = sym w.1 ∙ stands in cc)
      go (inr w) =
          let both : Some (slice_index costs v) ≡ Some c = sym w.1 ∙ stands in
          let cost : slice_index costs v ≡ c = cc in
          subst (λ (d : ℕ). Contains {X = ℕ × ℕ} row (v, d)) cost
          (kept j.history u (row_of t.prices u) costs (count j.history) v other.below (passes v c least cost other.why (read (row_of t.prices u) v)))

  pub others_of : HasOthers j t u row
  others_of = record { ascending = ascends j.history u (row_of t.prices u) costs (count j.history); only = only; each = each }

  pub costed_at : (v : ℕ) → v < count j.history → IsCost j u v (cost_at t u v)
  costed_at v to = subst (λ (o : Option ℕ). IsCost j u v o) (sym (cost_is v to)) (costed.costed v to)

-- ---- the index of a number among ascending ones

pub numbers_rise : (xs : List (ℕ × ℕ)) → AllPairs (λ (p q : ℕ × ℕ). p.0 < q.0) xs → IsNonDecreasingBy (λ (p : ℕ × ℕ). p.0) xs
numbers_rise xs pairs = IsNonDecreasingBy-from_default (λ (p : ℕ × ℕ). p.0) xs (0, 0) (λ i j upto below. go i j below (cases_lt i j) upto)
  where
    go : (i j : ℕ) → j < length xs → (i < j) ⊎ (j ≤ i) → i ≤ j → (get_or xs i (0, 0)).0 ≤ (get_or xs j (0, 0)).0
    go i j below (inl less) upto = let less' : (get_or xs i (0, 0)).0 < (get_or xs j (0, 0)).0 = pairs i j (0, 0) less below in omega arith
    go i j below (inr more) upto = let same : i ≡ j = omega (arith, more, upto) in rw same (omega arith)

-- the number at some index
pub among_found : (xs : List (ℕ × ℕ)) (k v c : ℕ) → AllPairs (λ (p q : ℕ × ℕ). p.0 < q.0) xs → k < length xs → get_or xs k (0, 0) ≡ (v, c)
    → cost_among xs v ≡ Some c
among_found [] k v c pairs inside is = absurd (omega arith)
among_found (p ∷ xs) zero v c pairs inside is =
    let number : p.0 ≡ v = ap (λ (q : ℕ × ℕ). q.0) is in
    let cost : p.1 ≡ c = ap (λ (q : ℕ × ℕ). q.1) is in
    rw (eq-eqb p.0 v number) (ap Some cost)
among_found (p ∷ xs) (suc k) v c pairs inside is =
    let less : p.0 < (get_or xs k (0, 0)).0 = pairs 0 (suc k) (0, 0) (omega arith) inside in
    let number : (get_or xs k (0, 0)).0 ≡ v = ap (λ (q : ℕ × ℕ). q.0) is in
    rw (ne_eqb p.0 v (λ e. absurd (omega (arith, e, less, number))))
    (among_found xs k v c (λ i m d l n. pairs (suc i) (suc m) d (omega arith) (omega arith)) (omega arith) is)

-- if no index has the number
pub among_absent : (xs : List (ℕ × ℕ)) (v : ℕ) → ((i : ℕ) → i < length xs → (get_or xs i (0, 0)).0 ≢ v) → cost_among xs v ≡ None
among_absent [] v none = refl
among_absent (p ∷ xs) v none = rw (ne_eqb p.0 v (none 0 (omega arith))) (among_absent xs v (λ i l. none (suc i) (omega arith)))

pub among_past : (xs : List (ℕ × ℕ)) (k v : ℕ) → IsPartitionPoint (λ (p : ℕ × ℕ). nat_lt p.0 v ≡ true) (λ (p : ℕ × ℕ). nat_lt p.0 v ≡ false) xs k
    → AllPairs (λ (p q : ℕ × ℕ). p.0 < q.0) xs → (k < length xs → (get_or xs k (0, 0)).0 ≢ v) → cost_among xs v ≡ None
among_past xs k v point pairs other = among_absent xs v (λ i inside. go i inside (cases_lt i k) (cases_lt k i))
  where
    go : (i : ℕ) → i < length xs → (i < k) ⊎ (k ≤ i) → (k < i) ⊎ (i ≤ k) → (get_or xs i (0, 0)).0 ≢ v
    go i inside (inl before) _ = λ e. absurd (let low = ltb-true (get_or xs i (0, 0)).0 v (point.0 i (0, 0) (omega arith) before) in omega (arith, e, low))
    go i inside (inr from) (inl past) = λ e. absurd (
        let high = ltb-false (get_or xs k (0, 0)).0 v (point.1 k (0, 0) (omega arith) (omega arith)) in
        let less : (get_or xs k (0, 0)).0 < (get_or xs i (0, 0)).0 = pairs k i (0, 0) past inside in
        omega (arith, e, high, less))
    go i inside (inr from) (inr upto) =
        let same : i ≡ k = omega (arith, from, upto) in
        rw same (other (omega (arith, same, inside)))
