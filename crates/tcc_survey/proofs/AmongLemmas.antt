-- Of readers of a key, which rise, those of one session stand together.
use Rattle.std.proofs.Common.{◌≡◌, ◌≢◌, ◌<◌, ◌≤◌, ◌+◌, ◌-◌, ◌⊎◌, inl, inr, ℕ, List, length, get_or, slice_index, refl, sym, ◌∙◌, subst, arith}
use Rattle.std.specs.List.{All, Contains}
use Rattle.std.specs.List.Sorted.{IsNonDecreasing}
use Rattle.std.proofs.lemmas.Bool.{cases_lt, cases_eq}
use Rattle.std.proofs.lemmas.List.{get_or_default}
use Rattle.std.proofs.lemmas.List.Elements.{All-contains}
use Rattle.std.proofs.lemmas.List.FromFn.{length-range_with_len, get_or-range_with_len}
use Rattle.std.proofs.lemmas.List.Kept.{IsNonDecreasingBy-filter}
use Rattle.std.proofs.lemmas.List.Sorted.{IsNonDecreasingBy-from_default}
use Rattle.tcc_reads.specs.History.{History, IsBySession, count, owner}
use Rattle.tcc_graph.specs.Keys.{has_name, numbers, readers}
use Rattle.tcc_graph.specs.Relations.{IsSessionPair, reads_from}
use Rattle.tcc_graph.proofs.Pairs.{PairParts, pair_parts}
use Rattle.tcc_clocks.proofs.Reaching.{same_session, session_rises}
use Rattle.tcc_survey.specs.private.Seen.{IsSeen}
use Rattle.tcc_survey.specs.private.Spells.{IsAfterAny, IsSeenAfter}
use Rattle.tcc_survey.proofs.BesideLemmas.{at_there, there_at}

pub readers_rise : (h : History) (a : ℕ) (x : List ℕ) → IsNonDecreasing (readers h a x)
readers_rise h a x = IsNonDecreasingBy-filter (λ n. n) (λ b. has_name (reads_from h a b) x) (numbers h) (IsNonDecreasingBy-from_default (λ n. n) (numbers h) 0 go)
  where
    go : (i j : ℕ) → i ≤ j → j < length (numbers h) → get_or (numbers h) i 0 ≤ get_or (numbers h) j 0
    go i j upto below =
        let all : length (numbers h) ≡ count h = length-range_with_len 0 (count h) in
        omega (
          arith,
          upto,
          get_or-range_with_len 0 (count h) i 0 (omega (arith, upto, below, all)),
          get_or-range_with_len 0 (count h) j 0 (omega (arith, below, all)),
        )

module _ (h : History) (numbered : IsBySession h.entries) where
  -- on from a later one of a session
  pub on_from : (f g d : ℕ) → 0 < f → IsSessionPair h f g → IsSessionPair h g d → IsSessionPair h f d
  on_from f g d some p q =
      let low : f < g = session_rises h numbered f g p in
      let high : g < d = session_rises h numbered g d q in
      let near : PairParts h f g = pair_parts h f g p in
      let far : PairParts h g d = pair_parts h g d q in
      same_session h numbered f d some (omega (arith, low, high)) far.to (near.same some ∙ far.same near.some)

  -- one between two of a session is of it
  from_between : (f g d : ℕ) → 0 < f → f ≤ g → g < d → IsSessionPair h f d → IsSessionPair h g d
  from_between f g d some low high p = by (cases_eq f g)
    where
      parts : PairParts h f d
      parts = pair_parts h f d p

      by : (f ≡ g) ⊎ (f ≢ g) → IsSessionPair h g d
      by (inl same) = subst (λ (z : ℕ). IsSessionPair h z d) same p
      by (inr other) =
          let up : owner h f ≤ owner h g = (numbered f g (omega (arith, low, other)) (omega (arith, high, parts.to))).0 in
          let down : owner h g ≤ owner h d = (numbered g d high parts.to).0 in
          let same : owner h f ≡ owner h d = parts.same some in
          same_session h numbered g d (omega (arith, some, low)) high parts.to (omega (arith, up, down, same))

  module _ (among : List ℕ) (rising : IsNonDecreasing among) (some : All (λ f. 0 < f) among) (d early : ℕ)
      (less : (k : ℕ) → k < early → slice_index among k < d) (others : (k : ℕ) → early ≤ k → k < length among → d ≤ slice_index among k) where
    module _ (apart : early < length among → slice_index among early ≢ d) where
      -- none is it
      none_itself : Contains among d → ⊥
      none_itself there = let w = at_there among d early rising less others there in apart w.0 w.1

      -- one of its session before it stands among the first
      before : (f : ℕ) → Contains among f → (f ≡ d) ⊎ IsSessionPair h f d → IsSessionPair h f d × ((k : ℕ) × (k < early) × (slice_index among k ≡ f))
      before f there (inl same) = absurd (none_itself (subst (Contains among) same there))
      before f (k, inside, here) (inr pair) = (pair, (k, upto (cases_lt k early), at))
        where
          at : slice_index among k ≡ f
          at = get_or_default among k 0 f inside ∙ here

          upto : (k < early) ⊎ (early ≤ k) → k < early
          upto (inl low) = low
          upto (inr high) = absurd (omega (arith, others k high inside, at, session_rises h numbered f d pair))

      pub none_before : early ≡ 0 → IsAfterAny h among d → ⊥
      none_before none (f, there, way) = let w = before f there way in omega (arith, none, w.1.1)

      pub last_before : early ≤ length among → IsAfterAny h among d → IsSessionPair h (slice_index among (early - 1)) d
      last_before within (f, there, way) =
          let w = before f there way in
          let k : ℕ = w.1.0 in
          let low : slice_index among k ≤ slice_index among (early - 1) = rising k (early - 1) 0 (omega (arith, w.1.1)) (omega (arith, w.1.1, within)) in
          from_between f (slice_index among (early - 1)) d (All-contains (λ f. 0 < f) among f some there) (omega (arith, low, w.1.2))
          (less (early - 1) (omega (arith, w.1.1))) w.0

    pub is_before : early ≢ 0 → early ≤ length among → IsSessionPair h (slice_index among (early - 1)) d → IsAfterAny h among d
    is_before some_early within pair =
        (slice_index among (early - 1), there_at among (slice_index among (early - 1)) (early - 1) (omega (arith, some_early, within)) refl, inr pair)

  -- who has seen no one of a session, has seen none of it that comes later
  module _ (c : ℕ) (among : List ℕ) (n next : ℕ) (some : 0 < slice_index among n) where
    unseen_later : (g : ℕ) → (slice_index among n ≡ g) ⊎ IsSessionPair h (slice_index among n) g → IsSeenAfter h c g → IsSeenAfter h c (slice_index among n)
    unseen_later g (inl same) seen = subst (IsSeenAfter h c) (sym same) seen
    unseen_later g (inr pair) (d, seen, inl same) = (d, seen, inr (subst (λ (z : ℕ). IsSessionPair h (slice_index among n) z) same pair))
    unseen_later g (inr pair) (d, seen, inr on) = (d, seen, inr (on_from (slice_index among n) g d some pair on))

    pub none_passed : ((k : ℕ) → k < n → IsSeenAfter h c (slice_index among k) → ⊥) → (IsSeenAfter h c (slice_index among n) → ⊥)
        → ((k : ℕ) → n < k → k < next → (slice_index among k ≡ slice_index among n) ⊎ IsSessionPair h (slice_index among n) (slice_index among k))
        → (k : ℕ) → k < next → IsSeenAfter h c (slice_index among k) → ⊥
    none_passed early never passed k less seen = by (cases_lt k n) (cases_eq k n)
      where
        turned : (slice_index among k ≡ slice_index among n) ⊎ IsSessionPair h (slice_index among n) (slice_index among k)
            → (slice_index among n ≡ slice_index among k) ⊎ IsSessionPair h (slice_index among n) (slice_index among k)
        turned (inl same) = inl (sym same)
        turned (inr pair) = inr pair

        by : (k < n) ⊎ (n ≤ k) → (k ≡ n) ⊎ (k ≢ n) → ⊥
        by (inl low) kind = early k low seen
        by (inr high) (inl same) = never (subst (λ (z : ℕ). IsSeenAfter h c (slice_index among z)) same seen)
        by (inr high) (inr other) = never (unseen_later (slice_index among k) (turned (passed k (omega (arith, high, other)) less)) seen)
