-- The row of a transaction that comes, over those of what is right before it.
use Rattle.std.proofs.Common.{ℕ, ◌+◌, ◌≡◌, ◌<◌, ◌≤◌, ◌⊎◌, inl, inr, List, [], ◌∷◌, ◌++◌, length, length-append, slice_index, refl, sym, ap, subst, ◌∙◌, arith}
use Rattle.std.specs.Prelude.{◌↔◌}
use Rattle.std.specs.List.{Contains}
use Rattle.std.proofs.lemmas.Bool.{cases_eq, cases_lt}
use Rattle.std.proofs.Math.ListN.{get_or-append}
use Rattle.std.proofs.lemmas.List.{get_or_push}
use Rattle.tcc_reads.specs.History.{Entry, History, count, owner, place}
use Rattle.tcc_graph.specs.Tables.{row_of}
use Rattle.tcc_watch.specs.Delivered.{IsDelivered, with_last}
use Rattle.tcc_watch.specs.private.Rows.{IsPlaceOf, IsRowOver, last_in}
use Rattle.tcc_watch.proofs.Arrived.{count_more, more, new_entry, old_or_new, old_owner, old_place}
use Rattle.tcc_forget.specs.Cases.{IsRightBefore}
use Rattle.tcc_forget.specs.Covers.{ComesOn, Cover}
use Rattle.tcc_forget.specs.Slots.{AreExact, ArePlaced, Reaches}
use Rattle.tcc_forget.specs.private.Linking.{AreParents}

-- what is right of the transaction that comes, by what is right of those before it
pub record IsThrough (h : History) (live : List ℕ) (cover : Cover) (e : Entry) (R : ℕ → ℕ → Type 0) (T : ℕ → Type 0) : Type 0 where
  pub into : (u p : ℕ) → u < count h → IsRightBefore h e cover p → R u p → T u
  pub session : (u : ℕ) → 0 < u → u < count h → owner h u ≡ e.owner → T u
  pub initial : T 0
  pub through : (u : ℕ) → 0 < u → u < count h → T u → (p : ℕ) × IsRightBefore h e cover p × R u p

module _ (h : History) (live : List ℕ) (cover : Cover) (e : Entry) (delivered : IsDelivered h) (on : ComesOn h live e) (R : ℕ → ℕ → Type 0)
    (T : ℕ → Type 0) (is : IsThrough h live cover e R T) (numbers : List ℕ) (rows : List (List ℕ)) (parents : List ℕ) (row : List ℕ)
    (exact : AreExact h R numbers rows) (are : AreParents h e cover numbers parents) (over : IsRowOver rows parents e.owner e.place row) where
  no_place : place h 0 ≡ 0
  no_place = ap (λ (z : Entry). z.place) delivered.first

  sound : (u : ℕ) → u < count h → (0 < u) ⊎ (u ≤ 0) → (owner h u ≡ e.owner) ⊎ (owner h u ≡ e.owner → ⊥) → Reaches h row u → T u
  sound u below (inr none) any r = let zeroth : 0 ≡ u = omega (arith, none) in subst T zeroth is.initial
  sound u below (inl some) (inl own) r = is.session u some below own
  sound u below (inl some) (inr other) r = go (over.others (owner h u) other).attained
    where
      go : (slice_index row (owner h u) ≡ 0) ⊎ ((p : ℕ) × Contains parents p × (slice_index row (owner h u) ≡ last_in rows p (owner h u))) → T u
      go (inl none) = absurd (omega (arith, none, r, delivered.placed u some below))
      go (inr (p, there, same)) =
          is.into u (slice_index numbers p) below (are.right p there)
          (exact.sound u p below (are.inside p there) (omega (arith, r, same)))

  whole : (u : ℕ) → u < count h → (0 < u) ⊎ (u ≤ 0) → (owner h u ≡ e.owner) ⊎ (owner h u ≡ e.owner → ⊥) → T u → Reaches h row u
  whole u below (inr none) any t =
      let zeroth : 0 ≡ u = omega (arith, none) in subst (λ (z : ℕ). Reaches h row z) zeroth (omega (arith, no_place))
  whole u below (inl some) (inl own) t =
      let lower : place h u < e.place = on.may.session u some below own in
      let at : slice_index row (owner h u) ≡ slice_index row e.owner = ap (λ k. slice_index row k) own in
      omega (arith, lower, at, over.itself)
  whole u below (inl some) (inr other) t =
      let w = is.through u some below t in
      let p = are.all w.0 w.1 in
      let before : Reaches h (row_of rows p.0) u = exact.whole u p.0 below (are.inside p.0 p.1) (subst (λ (z : ℕ). R u z) (sym p.2) w.2) in
      let upto : last_in rows p.0 (owner h u) ≤ slice_index row (owner h u) = (over.others (owner h u) other).greatest p.0 p.1 in
      omega (arith, before, upto)

  pub new_row : (u : ℕ) → u < count h → Reaches h row u ↔ T u
  new_row u below = (
    sound u below (cases_lt 0 u) (cases_eq (owner h u) e.owner),
    whole u below (cases_lt 0 u) (cases_eq (owner h u) e.owner),
  )

  -- its places are those of transactions
  pub row_placed : (session : ℕ) → IsPlaceOf (with_last h e) session (slice_index row session)
  row_placed session = go (cases_eq session e.owner)
    where
      go : (session ≡ e.owner) ⊎ (session ≡ e.owner → ⊥) → IsPlaceOf (with_last h e) session (slice_index row session)
      go (inl own) =
          let is_own : slice_index row session ≡ e.place = ap (λ k. slice_index row k) own ∙ over.itself in
          let entry = new_entry h e (count h) refl in
          inr (
            count h,
            delivered.some,
            omega (arith, count_more h e),
            ap (λ (z : Entry). z.owner) entry ∙ sym own,
            ap (λ (z : Entry). z.place) entry ∙ sym is_own,
          )
      go (inr other) = by (over.others session other).attained
        where
          old : (p : ℕ) → Contains parents p → slice_index row session ≡ last_in rows p session → IsPlaceOf h session (last_in rows p session)
              → IsPlaceOf (with_last h e) session (slice_index row session)
          old p there same (inl none) = inl (same ∙ none)
          old p there same (inr (u, some, below, owned, placed)) =
              inr (u, some, more h e u below, old_owner h e u below ∙ owned, old_place h e u below ∙ placed ∙ sym same)

          by : (slice_index row session ≡ 0) ⊎ ((p : ℕ) × Contains parents p × (slice_index row session ≡ last_in rows p session))
              → IsPlaceOf (with_last h e) session (slice_index row session)
          by (inl none) = inl none
          by (inr (p, there, same)) = old p there same (exact.placed p session (omega (arith, are.inside p there, exact.long)))

-- ---- the rows with it

module _ (h : History) (live : List ℕ) (cover : Cover) (e : Entry) (delivered : IsDelivered h) (on : ComesOn h live e) (R' : ℕ → ℕ → Type 0)
    (numbers : List ℕ) (rows : List (List ℕ)) (row : List ℕ) (below : (i : ℕ) → i < length numbers → slice_index numbers i < count h)
    (exact : AreExact h R' numbers rows) (itself : R' (count h) (count h)) (never : (v : ℕ) → v < count h → R' (count h) v → ⊥)
    (right : (u : ℕ) → u < count h → Reaches h row u ↔ R' u (count h)) (own : slice_index row e.owner ≡ e.place)
    (row_place : (session : ℕ) → IsPlaceOf (with_last h e) session (slice_index row session)) where
  abbrev g : History
  g = with_last h e

  abbrev all : List ℕ
  all = numbers ++ count h ∷ []

  abbrev longer : List (List ℕ)
  longer = rows ++ row ∷ []

  long : length longer ≡ length all
  long = length-append rows (row ∷ []) ∙ ap (λ k. k + 1) exact.long ∙ sym (length-append numbers (count h ∷ []))

  count_all : length all ≡ length numbers + 1
  count_all = length-append numbers (count h ∷ [])

  old_or_last : (i : ℕ) → i < length all → (i < length numbers) ⊎ (i ≡ length numbers)
  old_or_last i inside = go (cases_lt i (length numbers))
    where
      go : (i < length numbers) ⊎ (length numbers ≤ i) → (i < length numbers) ⊎ (i ≡ length numbers)
      go (inl less) = inl less
      go (inr most) = inr (omega (arith, most, inside, count_all))

  old_number : (i : ℕ) → i < length numbers → slice_index all i ≡ slice_index numbers i
  old_number i inside = get_or-append numbers (count h ∷ []) 0 i inside

  last_number : (i : ℕ) → i ≡ length numbers → slice_index all i ≡ count h
  last_number i is = get_or_push numbers (count h) 0 i (sym is)

  old_row : (i : ℕ) → i < length numbers → row_of longer i ≡ row_of rows i
  old_row i inside = get_or-append rows (row ∷ []) [] i (omega (arith, inside, exact.long))

  last_row : (i : ℕ) → i ≡ length numbers → row_of longer i ≡ row
  last_row i is = get_or_push rows row [] i (exact.long ∙ sym is)

  -- a comparison with one that was there
  reach_more : (r : List ℕ) (u : ℕ) → u < count h → Reaches h r u → Reaches g r u
  reach_more r u at_u p = let o = ap (λ k. slice_index r k) (old_owner h e u at_u) in omega (arith, p, o, old_place h e u at_u)

  reach_was : (r : List ℕ) (u : ℕ) → u < count h → Reaches g r u → Reaches h r u
  reach_was r u at_u p = let o = ap (λ k. slice_index r k) (old_owner h e u at_u) in omega (arith, p, o, old_place h e u at_u)

  new_owner : owner g (count h) ≡ e.owner
  new_owner = ap (λ (z : Entry). z.owner) (new_entry h e (count h) refl)

  new_place : place g (count h) ≡ e.place
  new_place = ap (λ (z : Entry). z.place) (new_entry h e (count h) refl)

  -- no row of an old one goes to it
  not_to_new : (i : ℕ) → i < length numbers → Reaches g (row_of rows i) (count h) → ⊥
  not_to_new i inside p = go (exact.placed i e.owner (omega (arith, inside, exact.long)))
    where
      upto : e.place ≤ slice_index (row_of rows i) e.owner
      upto = let o = ap (λ k. slice_index (row_of rows i) k) new_owner in omega (arith, p, o, new_place)

      go : IsPlaceOf h e.owner (slice_index (row_of rows i) e.owner) → ⊥
      go (inl none) = absurd (omega (arith, none, upto, on.may.placed))
      go (inr (u, some, at_u, owned, placed)) = absurd (omega (arith, on.may.session u some at_u owned, placed, upto))

  sound_at : (u i : ℕ) → (u < count h) ⊎ (u ≡ count h) → (i < length numbers) ⊎ (i ≡ length numbers) → Reaches g (row_of longer i) u → R' u (slice_index all i)
  sound_at u i (inl at_u) (inl at_i) p =
      subst (λ (z : ℕ). R' u z) (sym (old_number i at_i))
      (exact.sound u i at_u at_i (reach_was (row_of rows i) u at_u (subst (λ (r : List ℕ). Reaches g r u) (old_row i at_i) p)))
  sound_at u i (inr new) (inl at_i) p =
      absurd (not_to_new i at_i (subst (λ (z : ℕ). Reaches g (row_of rows i) z) new (subst (λ (r : List ℕ). Reaches g r u) (old_row i at_i) p)))
  sound_at u i (inl at_u) (inr last) p =
      subst (λ (z : ℕ). R' u z) (sym (last_number i last))
      ((right u at_u).0 (reach_was row u at_u (subst (λ (r : List ℕ). Reaches g r u) (last_row i last) p)))
  sound_at u i (inr new) (inr last) p =
      subst (λ (z : ℕ). R' u z) (sym (last_number i last)) (subst (λ (z : ℕ). R' z (count h)) (sym new) itself)

  whole_at : (u i : ℕ) → (u < count h) ⊎ (u ≡ count h) → (i < length numbers) ⊎ (i ≡ length numbers) → R' u (slice_index all i) → Reaches g (row_of longer i) u
  whole_at u i (inl at_u) (inl at_i) r =
      subst (λ (z : List ℕ). Reaches g z u) (sym (old_row i at_i))
      (reach_more (row_of rows i) u at_u (exact.whole u i at_u at_i (subst (λ (z : ℕ). R' u z) (old_number i at_i) r)))
  whole_at u i (inr new) (inl at_i) r =
      absurd (never (slice_index numbers i) (below i at_i)
      (subst (λ (z : ℕ). R' z (slice_index numbers i)) new (subst (λ (z : ℕ). R' u z) (old_number i at_i) r)))
  whole_at u i (inl at_u) (inr last) r =
      subst (λ (z : List ℕ). Reaches g z u) (sym (last_row i last))
      (reach_more row u at_u ((right u at_u).1 (subst (λ (z : ℕ). R' u z) (last_number i last) r)))
  whole_at u i (inr new) (inr last) r =
      let o = ap (λ k. slice_index row k) (ap (λ k. owner g k) new ∙ new_owner) in
      let p = ap (λ k. place g k) new in
      subst (λ (z : List ℕ). Reaches g z u) (sym (last_row i last)) (omega (arith, o, p, own, new_place))

  placed_more : ArePlaced g longer
  placed_more i session inside = go (old_or_last i (omega (arith, inside, long)))
    where
      old : IsPlaceOf h session (slice_index (row_of rows i) session) → IsPlaceOf g session (slice_index (row_of rows i) session)
      old (inl none) = inl none
      old (inr (u, some, at_u, owned, placed)) = inr (u, some, more h e u at_u, old_owner h e u at_u ∙ owned, old_place h e u at_u ∙ placed)

      go : (i < length numbers) ⊎ (i ≡ length numbers) → IsPlaceOf g session (slice_index (row_of longer i) session)
      go (inl at_i) =
          subst (λ (r : List ℕ). IsPlaceOf g session (slice_index r session)) (sym (old_row i at_i))
          (old (exact.placed i session (omega (arith, at_i, exact.long))))
      go (inr last) = subst (λ (r : List ℕ). IsPlaceOf g session (slice_index r session)) (sym (last_row i last)) (row_place session)

  pub exact_more : AreExact g R' all longer
  exact_more = record {
    long = long;
    sound = λ u i at_u at_i p. sound_at u i (old_or_new h e u at_u) (old_or_last i at_i) p;
    placed = placed_more;
    whole = λ u i at_u at_i r. whole_at u i (old_or_new h e u at_u) (old_or_last i at_i) r;
  }
