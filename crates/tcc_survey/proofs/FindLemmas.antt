-- Reads settled block by block, along an order that is gone through both ways.
use Rattle.std.proofs.Common.{◌≡◌, ◌≢◌, ◌<◌, ◌≤◌, ◌+◌, ◌-◌, ◌*◌, ◌⊎◌, inl, inr, ℕ, List, [], ◌∷◌, length, get_or, set, reverse, slice_index, sym, ap, ◌∙◌, subst, arith}
use Rattle.std.specs.Int.{div_ceil}
use Rattle.std.proofs.lemmas.Bool.{cases_eq}
use Rattle.std.proofs.lemmas.List.{get_or-reverse, length-reverse, get_or_default, get_or-set_same, get_or-set_other}
use Rattle.std.proofs.lemmas.List.Elements.{All-contains}
use Rattle.tcc_reads.specs.History.{History, IsBySession, count, owner}
use Rattle.tcc_graph.specs.Keys.{keys, key_at, writers}
use Rattle.tcc_graph.specs.Levels.{Judged}
use Rattle.tcc_graph.specs.Orders.{Before, IsNumbering}
use Rattle.tcc_graph.specs.Walks.{step_to, Leads}
use Rattle.tcc_graph.specs.declared.step.Step.{Step}
use Rattle.tcc_graph.proofs.Numberings.{one_index, has_index}
use Rattle.tcc_graph.proofs.Pairs.{step_pair}
use Rattle.tcc_graph.proofs.WriterLemmas.{writers_below}
use Rattle.tcc_clocks.specs.Clocks.{AreOwners, LeadsOnward}
use Rattle.tcc_clocks.specs.Spans.{AreSpans, AreBounds}
use Rattle.tcc_clocks.specs.private.Between.{IsBetween}
use Rattle.tcc_clocks.specs.declared.latest.TheConstants.{WIDE}
use Rattle.tcc_clocks.proofs.SpanLemmas.{between_span, writers_rise}
use Rattle.tcc_survey.specs.Circles.{IsAcyclic}
use Rattle.tcc_survey.specs.declared.external_reads.Reading.{Reading}
use Rattle.tcc_survey.specs.private.Settled.{AreWritersIn, AreSpansIn, in_span, IsAgainst, IsLeastOf, IsLeastBefore, AreSettled, AreFound, reading_of}

-- ---- the order
module _ (h : History) (order : List ℕ) (numbering : IsNumbering (count h) order) where
  joined : (a b c : ℕ) → Before order a b → Before order b c → Before order a c
  joined a b c (i, j, low, within, at_a, at_b) (k, m, above, inside, here_b, at_c) =
      let same = one_index numbering j k within (omega (arith, above, inside)) (at_b ∙ sym here_b) in
      (i, m, omega (arith, low, above, same), inside, at_a, at_c)

  module _ (onward : LeadsOnward h order) where
    walk_onward : (a b : ℕ) (s : Step) (steps : List Step) → Leads h a b (s ∷ steps) → Before order a b
    walk_onward a b s [] w = rw (← w.0, ← w.2) (onward _ _ (step_pair h s w.1))
    walk_onward a b s (t ∷ steps) w =
        let first : Before order a (step_to s) = subst (λ (z : ℕ). Before order z (step_to s)) w.0 (onward _ _ (step_pair h s w.1)) in
        joined a (step_to s) b first (walk_onward (step_to s) b t steps w.2)

    pub acyclic : IsAcyclic h
    acyclic t ([], w) = absurd (omega (arith, w.0))
    acyclic t (s ∷ steps, w) =
        let before = walk_onward t t s steps w.1 in
        let same = one_index numbering before.0 before.1 (omega (arith, before.2, before.3)) before.3 (before.4 ∙ sym before.5) in
        omega (arith, before.2, same)

  turned : (i : ℕ) → i < length order → slice_index (reverse order) i ≡ slice_index order (length order - 1 - i)
  turned i l = get_or-reverse order i 0 l

  turned_back : (i : ℕ) → i < length order → slice_index (reverse order) (length order - 1 - i) ≡ slice_index order i
  turned_back i l =
      let e : length order - 1 - (length order - 1 - i) ≡ i = omega (arith, l) in
      turned (length order - 1 - i) (omega (arith, l)) ∙ ap (λ k. slice_index order k) e

  pub reversed_before : (a b : ℕ) → Before order a b → Before (reverse order) b a
  reversed_before a b (i, j, less, within, at_a, at_b) = (
    length order - 1 - j,
    length order - 1 - i,
    omega (arith, less, within),
    omega (arith, less, within, length-reverse order),
    turned_back j within ∙ at_b,
    turned_back i (omega (arith, less, within)) ∙ at_a,
  )

  pub reversed_numbering : IsNumbering (count h) (reverse order)
  reversed_numbering = record {
    below = λ k d l.
        let inside : k < length order = omega (arith, l, length-reverse order) in
        subst (λ (z : ℕ). z < count h) (sym (get_or-reverse order k d inside)) (numbering.below (length order - 1 - k) d (omega (arith, inside)));
    each = λ a low.
        let w = has_index numbering a low in
        let inside : length order - 1 - w.0 < length (reverse order) = omega (arith, w.1, length-reverse order) in
        (length order - 1 - w.0, inside, get_or_default (reverse order) (length order - 1 - w.0) a 0 inside ∙ (turned_back w.0 w.1 ∙ w.2));
    once = λ i j less within same.
        let inside : j < length order = omega (arith, within, length-reverse order) in
        let short : i < length order = omega (arith, less, inside) in
        numbering.once (length order - 1 - j) (length order - 1 - i) (omega (arith, less, inside)) (omega (arith, short))
        (sym (turned j inside) ∙ (sym same ∙ turned i short));
  }

-- ---- spans
pub spans_in : (h : History) → IsBySession h.entries → (owners : List ℕ) → AreOwners h owners → (from low high : ℕ) (spans : List (ℕ × ℕ))
    → AreBounds owners from low high → AreSpans h low high spans (length (keys h)) → AreSpansIn h from spans
spans_in h numbered owners known from low high spans bounds are = record {
  long = are.long;
  within = λ k l. (are.each k l).last.within;
  each = λ k l. go k l
      (between_span (writers h (key_at h k)) (writers_rise h (key_at h k)) low high (get_or spans k (0, 0)).0 (get_or spans k (0, 0)).1 (are.each k l));
}
  where
    go : (k : ℕ) → k < length (keys h)
        → IsBetween (writers h (key_at h k)) low high (in_span (writers h (key_at h k)) (get_or spans k (0, 0)))
        → AreWritersIn h from (key_at h k) (in_span (writers h (key_at h k)) (get_or spans k (0, 0)))
    go k l between = record {
      listed = between.among;
      all = λ b some there above below.
          let small : b < count h = All-contains (λ (z : ℕ). z < count h) (writers h (key_at h k)) b (writers_below h (key_at h k)) there in
          let mine : slice_index owners b ≡ owner h b = known.each b some small in
          let w = bounds b (omega (arith, small, known.long)) (omega (arith, mine, above)) (omega (arith, mine, below)) in
          between.all b there w.0 w.1;
      rising = between.rising;
    }

-- ---- one read more
module _ {A : Type 0} (d : A) (P Q : ℕ → A → Type 0) (found : List A) (n i : ℕ) (v : A) (long : length found ≡ n) (inside : i < n)
    (before : (k : ℕ) → k < i → P k (get_or found k d)) (rest : (k : ℕ) → i ≤ k → k < n → Q k (get_or found k d)) (new : P i v) where
  pub cells_before : (k : ℕ) → k < i + 1 → P k (get_or (set found i v) k d)
  cells_before k l = go (cases_eq k i)
    where
      go : (k ≡ i) ⊎ (k ≢ i) → P k (get_or (set found i v) k d)
      go (inl same) = rw same (rw (get_or-set_same found i v d (omega (arith, inside, long))) new)
      go (inr other) = rw (get_or-set_other found i k v d other) (before k (omega (arith, l, other)))

  pub cells_rest : (k : ℕ) → i + 1 ≤ k → k < n → Q k (get_or (set found i v) k d)
  cells_rest k above below =
      let other : k ≢ i = omega arith in
      rw (get_or-set_other found i k v d other) (rest k (omega (arith, above)) below)

-- what holds before a place holds there too
pub one_more : (P : ℕ → Type 0) (i : ℕ) → ((k : ℕ) → k < i → P k) → P i → (k : ℕ) → k < i + 1 → P k
one_more P i before here k l = go (cases_eq k i)
  where
    go : (k ≡ i) ⊎ (k ≢ i) → P k
    go (inl same) = subst (λ (z : ℕ). P z) (sym same) here
    go (inr other) = before k (omega (arith, l, other))

-- ---- all blocks
pub none_settled : (j : Judged) (all : List Reading) (bound : ℕ) (found : List ℕ) → length found ≡ length all → bound ≡ 0
    → ((k : ℕ) → k < length all → slice_index found k ≡ 0) → AreSettled j all bound found
none_settled j all bound found long none zeroth = record {
  long = long;
  each = λ k l. record { attained = inl (zeroth k l); least = λ d w. absurd (omega (arith, w.1, none)) };
}

pub settled_found : (j : Judged) (all : List Reading) (bound sessions : ℕ) (found : List ℕ) → AreSettled j all bound found → sessions ≤ bound
    → ((b : ℕ) → 0 < b → b < count j.history → owner j.history b < sessions)
    → ((k : ℕ) → k < length all → (b : ℕ) → IsAgainst j (reading_of all k) b → 0 < b) → AreFound j all found
settled_found j all bound sessions found are cover owned some = record { long = are.long; each = λ k l. go k l (are.each k l) }
  where
    go : (k : ℕ) → k < length all → IsLeastBefore j bound (reading_of all k) (slice_index found k)
        → IsLeastOf (IsAgainst j (reading_of all k)) (slice_index found k)
    go k l is = record { attained = up is.attained; least = λ d w. is.least d (w, omega (arith, owned d (some k l d w) w.0.1.0.2.0, cover)) }
      where
        up : (slice_index found k ≡ 0) ⊎ (IsAgainst j (reading_of all k) (slice_index found k) × (owner j.history (slice_index found k) < bound))
            → (slice_index found k ≡ 0) ⊎ IsAgainst j (reading_of all k) (slice_index found k)
        up (inl none) = inl none
        up (inr w) = inr w.0

-- so many blocks have room for all sessions
pub blocks_cover : (sessions blocks : ℕ) → div_ceil sessions 64 ≤ blocks → sessions ≤ blocks * WIDE
blocks_cover sessions blocks enough = omega (arith, enough)
