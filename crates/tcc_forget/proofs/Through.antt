-- What a transaction that comes has observed and what leads to it, by what is right before it.
use Rattle.std.proofs.Common.{ℕ, ◌≡◌, ◌<◌, ◌⊎◌, inl, inr, List, ◌++◌, ◌∷◌, [], length, slice_index, refl, sym, ◌∙◌, arith}
use Rattle.std.specs.Prelude.{◌↔◌}
use Rattle.std.specs.List.{Contains}
use Rattle.tcc_reads.specs.History.{Entry, History, count, owner, place}
use Rattle.tcc_graph.specs.Levels.{causally}
use Rattle.tcc_graph.specs.Routes.{HasCycle}
use Rattle.tcc_graph.proofs.Pairs.{initial_pair, lower_first}
use Rattle.tcc_graph.proofs.Walking.{pair_walk}
use Rattle.tcc_watch.specs.Delivered.{IsDelivered, with_last}
use Rattle.tcc_watch.specs.private.Rows.{IsRowOver}
use Rattle.tcc_watch.proofs.Arrived.{count_more, delivered_more, more, old_owner, old_place, reached_stays, reached_was}
use Rattle.tcc_watch.proofs.Rising.{reached_rises}
use Rattle.tcc_forget.specs.Cases.{IsRightBefore, Observes, ReadsOutdated}
use Rattle.tcc_forget.specs.Covers.{ComesOn, Cover, Covers, HasObserved, IsReadable, LeadsTo}
use Rattle.tcc_forget.specs.Slots.{AreExact, Reaches}
use Rattle.tcc_forget.specs.private.Linking.{AreParents}
use Rattle.tcc_forget.proofs.Arriving.{begins_before}
use Rattle.tcc_forget.proofs.Known.{new_owner, new_place}
use Rattle.tcc_forget.proofs.Leading.{leads_join, reached_leads}
use Rattle.tcc_forget.proofs.NewRow.{IsThrough, exact_more, new_row, row_placed}
use Rattle.tcc_forget.proofs.Observing.{leads_through, observes_readable, right_before}

module _ (h : History) (live : List ℕ) (cover : Cover) (e : Entry) (delivered : IsDelivered h) (covers : Covers h live cover) (on : ComesOn h live e)
    (readable : (x : List ℕ) (m : ℕ) → Contains e.reads (x, m) → 0 < m → (IsReadable (cover x) m → ⊥) → ⊥) where
  abbrev g : History
  g = with_last h e

  abbrev t : ℕ
  t = count h

  here : t < count g
  here = omega (arith, count_more h e)

  session_observed : (u : ℕ) → 0 < u → u < t → owner h u ≡ e.owner → Observes h e u
  session_observed u some below owned =
      let lower : place h u < e.place = on.may.session u some below owned in
      let same : owner g u ≡ owner g t = old_owner h e u below ∙ owned ∙ sym (new_owner h live e delivered on) in
      let w = pair_walk g u t (inl (lower_first g u t some (more h e u below) delivered.some here same
      (omega (arith, lower, old_place h e u below, new_place h live e delivered on)))) in
      (w.0, w.1)

  initial_observed : Observes h e 0
  initial_observed = let w = pair_walk g 0 t (inl (initial_pair g 0 t refl (omega (arith, here)) delivered.some here)) in (w.0, w.1)

  pub observed_through : IsThrough h live cover e (λ u v. HasObserved h u v) (λ u. Observes h e u)
  observed_through = record {
    into = λ u p below before observed. right_before h live cover e delivered covers on u p before observed;
    session = session_observed;
    initial = initial_observed;
    through = λ u some below observed. observes_readable h live cover e delivered covers on readable u some observed;
  }

  module _ (none : HasCycle (causally h) → ⊥) (current : ReadsOutdated h e cover → ⊥) where
    pub lead_through : IsThrough h live cover e (λ u v. LeadsTo g u v) (λ u. LeadsTo g u t)
    lead_through = record {
      into = λ u p below before leads.
          leads_join g u p t leads (inr (reached_leads g p t (right_before h live cover e delivered covers on p p before (inl refl))));
      session = λ u some below owned. inr (reached_leads g u t (session_observed u some below owned));
      initial = inr (reached_leads g 0 t initial_observed);
      through = λ u some below leads. go (leads_through h live cover e delivered covers on none u some below leads);
    }
      where
        go : {u : ℕ} → ReadsOutdated h e cover ⊎ ((p : ℕ) × IsRightBefore h e cover p × LeadsTo g u p) → (p : ℕ) × IsRightBefore h e cover p × LeadsTo g u p
        go (inl bad) = absurd (current bad)
        go (inr found) = found

  module _ (numbers parents : List ℕ) (below : (i : ℕ) → i < length numbers → slice_index numbers i < count h)
      (are : AreParents h e cover numbers parents) where
    -- the clock of the transaction, and the clocks with it
    module _ (clocks : List (List ℕ)) (clock : List ℕ) (exact : AreExact h (HasObserved h) numbers clocks) (over : IsRowOver clocks parents e.owner e.place clock) where
      pub clock_right : (u : ℕ) → u < t → Reaches h clock u ↔ Observes h e u
      clock_right =
          new_row h live cover e delivered on (λ u v. HasObserved h u v) (λ u. Observes h e u) observed_through numbers clocks parents clock exact are over

      observed_more : (u : ℕ) → u < t → Reaches h clock u ↔ HasObserved g u t
      observed_more u at_u = ((λ r. inr ((clock_right u at_u).0 r)), back)
        where
          back : HasObserved g u t → Reaches h clock u
          back (inl same) = absurd (omega (arith, same, at_u))
          back (inr reached) = (clock_right u at_u).1 reached

      moved : AreExact h (HasObserved g) numbers clocks
      moved = record {
        long = exact.long;
        sound = λ u i at_u at_i r. stay (exact.sound u i at_u at_i r);
        placed = exact.placed;
        whole = λ u i at_u at_i observed. exact.whole u i at_u at_i (was u (slice_index numbers i) (below i at_i) observed);
      }
        where
          stay : {u v : ℕ} → HasObserved h u v → HasObserved g u v
          stay (inl same) = inl same
          stay (inr reached) = inr (reached_stays h e _ _ reached)

          was : (u v : ℕ) → v < count h → HasObserved g u v → HasObserved h u v
          was u v at_v (inl same) = inl same
          was u v at_v (inr reached) = inr (reached_was h e delivered on.may u v at_v reached)

      never : (v : ℕ) → v < count h → HasObserved g t v → ⊥
      never v at_v (inl same) = absurd (omega (arith, same, at_v))
      never v at_v (inr reached) = absurd (omega (arith, reached_rises g (delivered_more h e delivered on.may) t v reached, at_v))

      pub clocks_more : AreExact g (HasObserved g) (numbers ++ t ∷ []) (clocks ++ clock ∷ [])
      clocks_more =
          exact_more h live cover e delivered on (HasObserved g) numbers clocks clock below moved (inl refl) never observed_more over.itself
          (row_placed h live cover e delivered on (λ u v. HasObserved h u v) (λ u. Observes h e u) observed_through numbers clocks parents clock exact are over)

    -- and so of what leads to it
    module _ (none : HasCycle (causally h) → ⊥) (current : ReadsOutdated h e cover → ⊥) (rows : List (List ℕ)) (row : List ℕ) (exact : AreExact h (LeadsTo g) numbers rows)
        (over : IsRowOver rows parents e.owner e.place row) where
      row_right : (u : ℕ) → u < t → Reaches h row u ↔ LeadsTo g u t
      row_right =
          new_row h live cover e delivered on (λ u v. LeadsTo g u v) (λ u. LeadsTo g u t) (lead_through none current) numbers rows parents row exact are over

      not_back : (v : ℕ) → v < count h → LeadsTo g t v → ⊥
      not_back v at_v (inl same) = absurd (omega (arith, same, at_v))
      not_back v at_v (inr ([], (some, p))) = absurd (omega (arith, some))
      not_back v at_v (inr (l ∷ links, (some, p))) = absurd (omega (arith, begins_before h e delivered on.may l p.1, p.0))

      pub rows_more : AreExact g (LeadsTo g) (numbers ++ t ∷ []) (rows ++ row ∷ [])
      rows_more =
          exact_more h live cover e delivered on (LeadsTo g) numbers rows row below exact (inl refl) not_back row_right over.itself
          (row_placed h live cover e delivered on (λ u v. LeadsTo g u v) (λ u. LeadsTo g u t) (lead_through none current) numbers rows parents row exact are over)
