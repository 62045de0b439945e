-- The last step of a walk: the lowest number at which it may begin.
use Rattle.std.proofs.Common.{ℕ, ◌≡◌, ◌<◌, ◌≤◌, ◌+◌, ◌⊎◌, inl, inr, true, List, length, Option, None, Some, MatchOption, refl, sym, ap, subst, ◌∙◌, arith}
use Rattle.std.specs.Prelude.{min, slice_index_or}
use Rattle.std.specs.Ordering.{nat_cmp}
use Rattle.std.specs.Cmp.{nat_cmp_is}
use Rattle.std.specs.declared.cmp.Ordering.TheVariants.{Less}
use Rattle.std.proofs.lemmas.Bool.{cases_lt, cases_eq, cases_order}
use Rattle.std.proofs.lemmas.List.{get_or_default}
use Rattle.std.proofs.lemmas.List.Elements.{Contains-get_or}
use Rattle.tcc_reads.specs.History.{History, count}
use Rattle.tcc_graph.specs.Keys.{key_at}
use Rattle.tcc_graph.specs.Relations.{IsSessionPair, IsReadsPair, IsCausalPair}
use Rattle.tcc_graph.specs.Walks.{step_from, step_to, IsStep}
use Rattle.tcc_graph.specs.declared.step.Step.{Step}
use Rattle.tcc_graph.proofs.Pairs.{PairParts, pair_parts, initial_pair, lower_first, step_pair}
use Rattle.tcc_derive.specs.private.LeadingBack.{IsUpTo, IsFirstStep, IsLastStep, stands_at}
use Rattle.tcc_least.proofs.ReadLemmas.{AreReadsAt, is_read, read_is}
use Rattle.tcc_first.specs.private.Picks.{IsLowestOf}

-- ---- the lowest of some numbers
module _ (Is Js : ℕ → Type 0) (kept : (u : ℕ) → Is u → Js u) where
  pub lowest_same : ((u : ℕ) → Js u → Is u) → (lowest : Option ℕ) → IsLowestOf Is lowest → IsLowestOf Js lowest
  lowest_same back None none = λ u is. none u (back u is)
  lowest_same back (Some n) least = (kept n least.0, λ u is. least.1 u (back u is))

  -- one more number
  module _ (n : ℕ) (here : Js n) (either : (u : ℕ) → Js u → Is u ⊎ (u ≡ n)) where
    no_lower : (m : ℕ) → m ≤ n → ((u : ℕ) → Is u → m ≤ u) → (u : ℕ) → Js u → m ≤ u
    no_lower m low least u is = go (either u is)
      where
        go : Is u ⊎ (u ≡ n) → m ≤ u
        go (inl was) = least u was
        go (inr same) = omega (arith, low, same)

    pub lowest_more : (old new : Option ℕ) → MatchOption old (new ≡ Some n) (λ m. new ≡ Some (min m n)) → IsLowestOf Is old → IsLowestOf Js new
    lowest_more None new is none =
        subst (IsLowestOf Js) (sym is) (here, no_lower n (omega arith) (λ u was. absurd (none u was)))
    lowest_more (Some m) new is least = subst (IsLowestOf Js) (sym is) (go (cases_lt m n))
      where
        go : (m < n) ⊎ (n ≤ m) → IsLowestOf Js (Some (min m n))
        go (inl less) =
            let same : m ≡ min m n = omega (arith, less) in
            subst (λ (z : ℕ). IsLowestOf Js (Some z)) same (kept m least.0, no_lower m (omega (arith, less)) least.1)
        go (inr more) =
            let same : n ≡ min m n = omega (arith, more) in
            subst (λ (z : ℕ). IsLowestOf Js (Some z)) same (here, no_lower n (omega arith) (λ u was. omega (arith, more, least.1 u was)))

-- ---- the transactions before another in session order
-- session order goes on from one pair to the next
session_on : (h : History) (a b c : ℕ) → IsSessionPair h a b → IsSessionPair h b c → IsSessionPair h a c
session_on h a b c p q = go (cases_eq a 0)
  where
    one : PairParts h a b
    one = pair_parts h a b p

    two : PairParts h b c
    two = pair_parts h b c q

    go : (a ≡ 0) ⊎ (a ≡ 0 → ⊥) → IsSessionPair h a c
    go (inl none) = initial_pair h a c none one.from two.some two.to
    go (inr other) =
        let some : 0 < a = omega (arith, other) in
        lower_first h a c some one.from two.some two.to (one.same some ∙ two.same one.some) (omega (arith, one.lower some, two.lower one.some))

-- the lowest so far of the transactions before the end; the remaining ones come before another transaction
abbrev pub IsLowestDown : History → (ℕ → Type 0) → ℕ → ℕ → Option ℕ → Type 0
IsLowestDown h Is end at lowest =
    MatchOption lowest ((u : ℕ) → IsSessionPair h u end → Is u → IsSessionPair h u at)
    (λ n. (IsSessionPair h n end × Is n) × (at ≤ n) × ((u : ℕ) → IsSessionPair h u end → Is u → (n ≤ u) ⊎ IsSessionPair h u at))

-- the state when the search has come down to a transaction
pub record IsDown (h : History) (Is : ℕ → Type 0) (end : ℕ) (at : ℕ) (lowest : Option ℕ) : Type 0 where
  pub below : at < count h
  pub onward : (u : ℕ) → IsSessionPair h u at → IsSessionPair h u end
  pub so_far : IsLowestDown h Is end at lowest

module _ (h : History) (Is : ℕ → Type 0) (end : ℕ) where
  pub down_none : end < count h → IsDown h Is end end None
  down_none below = record { below = below; onward = λ u pair. pair; so_far = λ u pair is. pair }

  module _ (at next : ℕ) (less : next < at) (pair : IsSessionPair h next at)
      (last : (u : ℕ) → IsSessionPair h u at → (u ≡ next) ⊎ IsSessionPair h u next) where
    pub down_here : (lowest : Option ℕ) → IsDown h Is end at lowest → Is next → IsDown h Is end next (Some next)
    down_here lowest w is = record {
      below = omega (arith, less, w.below);
      onward = λ u p. w.onward u (session_on h u next at p pair);
      so_far = ((w.onward next pair, is), omega arith, λ u p there. up_to u (among lowest w.so_far u p there));
    }
      where
        among : (lowest : Option ℕ) → IsLowestDown h Is end at lowest → (u : ℕ) → IsSessionPair h u end → Is u → (at ≤ u) ⊎ IsSessionPair h u at
        among None so u p there = inr (so u p there)
        among (Some n) so u p there = go (so.2 u p there)
          where
            go : (n ≤ u) ⊎ IsSessionPair h u at → (at ≤ u) ⊎ IsSessionPair h u at
            go (inl up) = inl (omega (arith, so.1, up))
            go (inr before) = inr before

        up_to : (u : ℕ) → (at ≤ u) ⊎ IsSessionPair h u at → (next ≤ u) ⊎ IsSessionPair h u next
        up_to u (inl up) = inl (omega (arith, less, up))
        up_to u (inr before) = go (last u before)
          where
            go : (u ≡ next) ⊎ IsSessionPair h u next → (next ≤ u) ⊎ IsSessionPair h u next
            go (inl same) = inl (omega (arith, same))
            go (inr p) = inr p

    pub down_on : (lowest : Option ℕ) → IsDown h Is end at lowest → (Is next → ⊥) → IsDown h Is end next lowest
    down_on lowest w none = record {
      below = omega (arith, less, w.below);
      onward = λ u p. w.onward u (session_on h u next at p pair);
      so_far = so_on lowest w.so_far;
    }
      where
        before : (u : ℕ) → Is u → IsSessionPair h u at → IsSessionPair h u next
        before u is p = go (last u p)
          where
            go : (u ≡ next) ⊎ IsSessionPair h u next → IsSessionPair h u next
            go (inl same) = absurd (none (subst Is same is))
            go (inr q) = q

        so_on : (lowest : Option ℕ) → IsLowestDown h Is end at lowest → IsLowestDown h Is end next lowest
        so_on None so = λ u p is. before u is (so u p is)
        so_on (Some n) so = (so.0, omega (arith, less, so.1), λ u p is. go u is (so.2 u p is))
          where
            go : (u : ℕ) → Is u → (n ≤ u) ⊎ IsSessionPair h u at → (n ≤ u) ⊎ IsSessionPair h u next
            go u is (inl up) = inl up
            go u is (inr p) = inr (before u is p)

  -- no transaction comes before `init`
  pub all_down : (at : ℕ) → at ≤ 0 → (lowest : Option ℕ) → IsDown h Is end at lowest → IsLowestOf (λ u. IsSessionPair h u end × Is u) lowest
  all_down at none lowest w = go lowest w.so_far
    where
      never : (u : ℕ) → IsSessionPair h u at → ⊥
      never u p = let parts : PairParts h u at = pair_parts h u at p in omega (arith, parts.some, none)

      up : (n u : ℕ) → (n ≤ u) ⊎ IsSessionPair h u at → n ≤ u
      up n u (inl low) = low
      up n u (inr p) = absurd (never u p)

      go : (lowest : Option ℕ) → IsLowestDown h Is end at lowest → IsLowestOf (λ u. IsSessionPair h u end × Is u) lowest
      go None so = λ u both. never u (so u both.0 both.1)
      go (Some n) so = (so.0, λ u both. up n u (so.2 u both.0 both.1))

-- ---- and those that it reads from
-- it comes before the end in session order, or one of the first reads is from it
abbrev pub IsStartIn : History → ℕ → List (ℕ × ℕ) → ℕ → ℕ → Type 0
IsStartIn h end reads k u = IsSessionPair h u end ⊎ ((i : ℕ) × (i < k) × ((slice_index_or reads i (0, 0)).1 ≡ u))

module _ (h : History) (Is : ℕ → Type 0) (end : ℕ) (reads : List (ℕ × ℕ)) where
  pub starts_none : (lowest : Option ℕ) → IsLowestOf (λ u. IsSessionPair h u end × Is u) lowest → IsLowestOf (λ u. IsStartIn h end reads 0 u × Is u) lowest
  starts_none = lowest_same (λ u. IsSessionPair h u end × Is u) (λ u. IsStartIn h end reads 0 u × Is u) (λ u both. (inl both.0, both.1)) back
    where
      pair : (u : ℕ) → IsStartIn h end reads 0 u → IsSessionPair h u end
      pair u (inl p) = p
      pair u (inr (i, less, same)) = absurd (omega (arith, less))

      back : (u : ℕ) → IsStartIn h end reads 0 u × Is u → IsSessionPair h u end × Is u
      back u both = (pair u both.0, both.1)

  module _ (k : ℕ) where
    kept : (u : ℕ) → IsStartIn h end reads k u × Is u → IsStartIn h end reads (k + 1) u × Is u
    kept u (inl p, is) = (inl p, is)
    kept u (inr (i, less, same), is) = (inr (i, omega (arith, less), same), is)

    either : (u : ℕ) → IsStartIn h end reads (k + 1) u × Is u → (IsStartIn h end reads k u × Is u) ⊎ (u ≡ (slice_index_or reads k (0, 0)).1)
    either u (inl p, is) = inl (inl p, is)
    either u (inr (i, less, same), is) = go (cases_eq i k)
      where
        go : (i ≡ k) ⊎ (i ≡ k → ⊥) → (IsStartIn h end reads k u × Is u) ⊎ (u ≡ (slice_index_or reads k (0, 0)).1)
        go (inl here) = inr (subst (λ (z : ℕ). u ≡ (slice_index_or reads z (0, 0)).1) here (sym same))
        go (inr other) = inl (inr (i, omega (arith, less, other), same), is)

    pub starts_more : Is (slice_index_or reads k (0, 0)).1 → (old new : Option ℕ)
        → MatchOption old (new ≡ Some (slice_index_or reads k (0, 0)).1) (λ m. new ≡ Some (min m (slice_index_or reads k (0, 0)).1))
        → IsLowestOf (λ u. IsStartIn h end reads k u × Is u) old → IsLowestOf (λ u. IsStartIn h end reads (k + 1) u × Is u) new
    starts_more is =
        lowest_more (λ u. IsStartIn h end reads k u × Is u) (λ u. IsStartIn h end reads (k + 1) u × Is u) kept (slice_index_or reads k (0, 0)).1
        (inr (k, omega arith, refl), is) either

    pub starts_same : (Is (slice_index_or reads k (0, 0)).1 → ⊥) → (lowest : Option ℕ)
        → IsLowestOf (λ u. IsStartIn h end reads k u × Is u) lowest → IsLowestOf (λ u. IsStartIn h end reads (k + 1) u × Is u) lowest
    starts_same none = lowest_same (λ u. IsStartIn h end reads k u × Is u) (λ u. IsStartIn h end reads (k + 1) u × Is u) kept back
      where
        back : (u : ℕ) → IsStartIn h end reads (k + 1) u × Is u → IsStartIn h end reads k u × Is u
        back u both = go (either u both)
          where
            go : (IsStartIn h end reads k u × Is u) ⊎ (u ≡ (slice_index_or reads k (0, 0)).1) → IsStartIn h end reads k u × Is u
            go (inl was) = was
            go (inr same) = absurd (none (subst Is same both.1))

  pub all_starts : AreReadsAt h end reads → end < count h → (k : ℕ) → length reads ≤ k → k ≤ length reads → (lowest : Option ℕ)
      → IsLowestOf (λ u. IsStartIn h end reads k u × Is u) lowest → IsLowestOf (λ u. IsCausalPair h u end × Is u) lowest
  all_starts are below k all within =
      lowest_same (λ u. IsStartIn h end reads k u × Is u) (λ u. IsCausalPair h u end × Is u) (λ u both. (pair u both.0, both.1)) (λ u both. (start u both.0, both.1))
    where
      pair : (u : ℕ) → IsStartIn h end reads k u → IsCausalPair h u end
      pair u (inl p) = inl p
      pair u (inr (i, less, same)) =
          let read : ℕ × ℕ = slice_index_or reads i (0, 0) in
          inr (
            key_at h read.0,
            subst (λ (z : ℕ). IsReadsPair h z end (key_at h read.0)) same (is_read h end reads are read (Contains-get_or reads i (0, 0) (omega (arith, less, within))) below),
          )

      start : (u : ℕ) → IsCausalPair h u end → IsStartIn h end reads k u
      start u (inl p) = inl p
      start u (inr (x, p)) =
          let w = read_is h end reads are u x p in
          let at : slice_index_or reads w.1.0 (0, 0) ≡ w.0 = get_or_default reads w.1.0 (0, 0) w.0 w.1.1 ∙ w.1.2 in
          inr (w.1.0, omega (arith, w.1.1, all), ap (λ (r : ℕ × ℕ). r.1) at ∙ w.2)

-- ---- the first step from the lowest of them
pub last_from : (h : History) (lengths : List ℕ) (b v n u : ℕ) (s : Step) → stands_at lengths b u n ≡ true
    → ((t : ℕ) → IsCausalPair h t v × (stands_at lengths b t n ≡ true) → u ≤ t) → IsFirstStep h u v s → IsLastStep h lengths b v n s
last_from h lengths b v n u s stands lowest first = record {
  step = first.step;
  to = first.to;
  stands = subst (λ (z : ℕ). stands_at lengths b z n ≡ true) (sym first.from) stands;
  first = λ o is to there. up_to o is to there (cases_order u (step_from o));
}
  where
    up_to : (o : Step) → IsStep h o → step_to o ≡ v → stands_at lengths b (step_from o) n ≡ true → (u ≡ step_from o) ⊎ ((u < step_from o) ⊎ (step_from o < u))
        → IsUpTo s o
    up_to o is to there (inl same) = first.first o is (sym same) to
    up_to o is to there (inr (inl less)) =
        let before : nat_cmp (step_from s) (step_from o) ≡ Less
        = subst (λ (z : ℕ). nat_cmp z (step_from o) ≡ Less) (sym first.from) (sym (nat_cmp_is u (step_from o) Less less)) in
        inl (rw before refl)
    up_to o is to there (inr (inr more)) =
        let low : u ≤ step_from o = lowest (step_from o) (subst (λ (z : ℕ). IsCausalPair h (step_from o) z) to (step_pair h o is), there) in
        absurd (omega (arith, low, more))

pub none_from : (h : History) (lengths : List ℕ) (b v n : ℕ) → ((t : ℕ) → IsCausalPair h t v × (stands_at lengths b t n ≡ true) → ⊥)
    → (o : Step) → IsStep h o → step_to o ≡ v → stands_at lengths b (step_from o) n ≡ true → ⊥
none_from h lengths b v n none o is to there = none (step_from o) (subst (λ (z : ℕ). IsCausalPair h (step_from o) z) to (step_pair h o is), there)
