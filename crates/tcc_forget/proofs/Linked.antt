-- Rows of the kept transactions before and after a transaction's links are made.
use Rattle.std.proofs.Common.{ℕ, ◌≡◌, ◌<◌, ◌⊎◌, inl, inr, List, [], ◌∷◌, ◌++◌, length, slice_index, sym, subst, arith, ◌∙◌}
use Rattle.std.specs.List.{Contains}
use Rattle.std.proofs.lemmas.Bool.{cases_eq}
use Rattle.std.proofs.lemmas.List.{get_or_default}
use Rattle.tcc_reads.specs.History.{Entry, History, count}
use Rattle.tcc_graph.specs.Levels.{causally}
use Rattle.tcc_graph.specs.Routes.{HasCycle}
use Rattle.tcc_graph.specs.Tables.{row_of}
use Rattle.tcc_watch.specs.Delivered.{IsDelivered, with_last}
use Rattle.tcc_forget.specs.Cases.{ClosesCircle, IsMade, LeadsBy, ReadsOutdated}
use Rattle.tcc_forget.specs.Covers.{ComesOn, Cover, Covers, LeadsTo}
use Rattle.tcc_forget.specs.Slots.{AreExact, AreKept, Reaches}
use Rattle.tcc_forget.specs.private.Linking.{AreBetween, AreMade}
use Rattle.tcc_forget.proofs.Leading.{around, leads_join, leads_stay}
use Rattle.tcc_forget.proofs.Made.{by_join, cycle_by, leads_by}

-- where a number is among the slots
pub slot_of : (numbers : List ℕ) (b : ℕ) → Contains numbers b → (i : ℕ) × (i < length numbers) × (slice_index numbers i ≡ b)
slot_of numbers b (i, inside, is) = (i, inside, get_or_default numbers i 0 b inside ∙ is)

module _ (h : History) (e : Entry) (numbers : List ℕ) (rows : List (List ℕ)) (below : (i : ℕ) → i < length numbers → slice_index numbers i < count h)
    (none : HasCycle (causally h) → ⊥) (exact : AreExact h (LeadsTo h) numbers rows) where
  abbrev n : ℕ → ℕ
  n i = slice_index numbers i

  twice : (u v : ℕ) → LeadsTo h u v → LeadsTo h v u → (u ≡ v) ⊎ (u ≡ v → ⊥) → u ≡ v
  twice u v p q (inl same) = same
  twice u v (inl same) q (inr apart) = same
  twice u v (inr route) q (inr apart) = absurd (none (around h u v route q))

  -- before it has made a link, the rows are between
  pub between_first : AreBetween h e numbers rows
  between_first = record {
    long = exact.long;
    placed = exact.placed;
    old = exact.whole;
    sound = λ u i at_u at_i r. leads_stay h e u (n i) (exact.sound u i at_u at_i r);
    joined = λ u i k at_u at_i at_k p q.
        exact.whole u k at_u at_k (leads_join h u (n i) (n k) (exact.sound u i at_u at_i p) (exact.sound (n i) k (below i at_i) at_k q));
    apart = λ i k at_i at_k p q.
        twice (n i) (n k) (exact.sound (n i) k (below i at_i) at_k p) (exact.sound (n k) i (below k at_k) at_i q) (cases_eq (n i) (n k));
  }

module _ (h : History) (live : List ℕ) (cover : Cover) (e : Entry) (delivered : IsDelivered h) (covers : Covers h live cover) (on : ComesOn h live e)
    (none : HasCycle (causally h) → ⊥) (numbers : List ℕ) (rows : List (List ℕ)) (below : (i : ℕ) → i < length numbers → slice_index numbers i < count h)
    (between : AreBetween h e numbers rows) (kept : AreKept cover numbers) (made : AreMade h e cover numbers rows) where
  abbrev g : History
  g = with_last h e

  made_row : (b a ib ia : ℕ) → ib < length numbers → ia < length numbers → slice_index numbers ib ≡ b → slice_index numbers ia ≡ a → IsMade h e cover b a
      → Reaches h (row_of rows ia) (slice_index numbers ib)
  made_row b a ib ia at_b at_a is_b is_a is =
      made ib ia at_b at_a
      (subst (λ (z : ℕ). IsMade h e cover z (slice_index numbers ia)) (sym is_b) (subst (λ (z : ℕ). IsMade h e cover b z) (sym is_a) is))

  by_reaches : (u i : ℕ) (links : List (ℕ × ℕ)) → u < count h → i < length numbers → LeadsBy h e cover u (slice_index numbers i) links → Reaches h (row_of rows i) u
  by_reaches u i [] at_u at_i leads = between.old u i at_u at_i leads
  by_reaches u i (m ∷ more) at_u at_i (before, is, after) =
      let b = slot_of numbers m.0 (kept is.key m.0 is.from) in
      let a = slot_of numbers m.1 (kept is.key m.1 is.to) in
      let first : Reaches h (row_of rows b.0) u = between.old u b.0 at_u b.1 (subst (λ (z : ℕ). LeadsTo h u z) (sym b.2) before) in
      let over : Reaches h (row_of rows a.0) u = between.joined u b.0 a.0 at_u b.1 a.1 first (made_row m.0 m.1 b.0 a.0 b.1 a.1 b.2 a.2 is) in
      let rest : Reaches h (row_of rows i) (slice_index numbers a.0)
      = by_reaches (slice_index numbers a.0) i more (below a.0 a.1) at_i
      (subst (λ (z : ℕ). LeadsBy h e cover z (slice_index numbers i) more) (sym a.2) after) in
      between.joined u a.0 i at_u a.1 at_i over rest

  module _ (current : ReadsOutdated h e cover → ⊥) where
    whole : (u i : ℕ) → u < count h → i < length numbers → LeadsTo g u (slice_index numbers i) → Reaches h (row_of rows i) u
    whole u i at_u at_i leads = go (leads_by h live cover e delivered covers on u (slice_index numbers i) (below i at_i) leads)
      where
        go : ReadsOutdated h e cover ⊎ ((links : List (ℕ × ℕ)) × LeadsBy h e cover u (slice_index numbers i) links) → Reaches h (row_of rows i) u
        go (inl bad) = absurd (current bad)
        go (inr (links, by)) = by_reaches u i links at_u at_i by

    -- once all links are made the rows are right for the history with it
    pub exact_after : AreExact h (LeadsTo g) numbers rows
    exact_after = record { long = between.long; sound = between.sound; placed = between.placed; whole = whole }

    -- and it has no cycle
    pub still_none : HasCycle (causally g) → ⊥
    still_none cycle = go (cycle_by h live cover e delivered covers on none cycle)
      where
        go : ReadsOutdated h e cover ⊎ ClosesCircle h e cover → ⊥
        go (inl bad) = current bad
        go (inr (s, [], some, by)) = absurd (omega (arith, some))
        go (inr (s, m ∷ more, some, (before, is, after))) =
            let b = slot_of numbers m.0 (kept is.key m.0 is.from) in
            let a = slot_of numbers m.1 (kept is.key m.1 is.to) in
            let round : LeadsBy h e cover m.1 m.0 (more ++ []) = by_join h live cover e delivered covers on m.1 s m.0 more [] after before in
            let back : Reaches h (row_of rows b.0) (slice_index numbers a.0)
            = by_reaches (slice_index numbers a.0) b.0 (more ++ []) (below a.0 a.1) b.1
            (subst (λ (z : ℕ). LeadsBy h e cover z (slice_index numbers b.0) (more ++ [])) (sym a.2)
            (subst (λ (z : ℕ). LeadsBy h e cover m.1 z (more ++ [])) (sym b.2) round)) in
            let same : slice_index numbers b.0 ≡ slice_index numbers a.0
            = between.apart b.0 a.0 b.1 a.1 (made_row m.0 m.1 b.0 a.0 b.1 a.1 b.2 a.2 is) back in
            is.apart (sym b.2 ∙ same ∙ a.2)
