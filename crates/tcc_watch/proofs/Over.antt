-- The row of a transaction that comes last, over the rows of those right before it.
use Rattle.std.proofs.Common.{ℕ, ◌≡◌, ◌<◌, ◌≤◌, ◌⊎◌, inl, inr, List, [], ◌∷◌, ◌++◌, slice_index, refl, sym, ap, subst, ◌∙◌, arith, length-append}
use Rattle.std.specs.List.{Contains}
use Rattle.std.proofs.Math.ListN.{get_or-append}
use Rattle.std.proofs.lemmas.List.{get_or_push}
use Rattle.std.proofs.lemmas.Bool.{cases_lt, cases_eq}
use Rattle.tcc_reads.specs.History.{Entry, History, count, owner, place}
use Rattle.tcc_graph.specs.Relations.{IsSessionPair, IsCausalPair}
use Rattle.tcc_graph.specs.Tables.{row_of}
use Rattle.tcc_graph.proofs.Pairs.{lower_first, pair_below}
use Rattle.tcc_watch.specs.Delivered.{IsDelivered, MayCome, with_last}
use Rattle.tcc_watch.specs.private.Rows.{last_in, IsUpTo, IsPlaceOf, AreOrdered, OrdersPairs, AreSound, AreParents, IsRowOver}
use Rattle.tcc_watch.proofs.Arrived.{count_more, new_entry, old_owner, old_place, old_or_new, more, delivered_more, session_was, pair_was}
use Rattle.tcc_watch.proofs.Rising.{pair_rises}

module _ (h : History) (e : Entry) (rows : List (List ℕ)) (row : List ℕ) (parents : List ℕ) (delivered : IsDelivered h) (may : MayCome h e)
    (ordered : AreOrdered h rows) (pairs : OrdersPairs h rows) (right : AreParents (with_last h e) (count h) parents)
    (over : IsRowOver rows parents e.owner e.place row) where
  abbrev g : History
  g = with_last h e

  abbrev t : ℕ
  t = count h

  abbrev new : List (List ℕ)
  new = rows ++ row ∷ []

  old_row : (v : ℕ) → v < t → row_of new v ≡ row_of rows v
  old_row v old = get_or-append rows (row ∷ []) [] v (omega (arith, old, ordered.held.long))

  new_row : row_of new t ≡ row
  new_row = get_or_push rows row [] t ordered.held.long

  own_owner : owner g t ≡ e.owner
  own_owner = ap (λ (z : Entry). z.owner) (new_entry h e t refl)

  own_place : place g t ≡ e.place
  own_place = ap (λ (z : Entry). z.place) (new_entry h e t refl)

  parent_old : (p : ℕ) → Contains parents p → p < t
  parent_old p there = pair_rises g (delivered_more h e delivered may) p t (right.pairs p there)

  -- ---- between two that were there nothing changes

  stays : (u v : ℕ) → u < t → v < t → IsUpTo h rows u v → IsUpTo g new u v
  stays u v at_u at_v up =
      let moved : last_in new v (owner g u) ≡ last_in rows v (owner h u)
      = ap (λ (z : List ℕ). slice_index z (owner g u)) (old_row v at_v) ∙ ap (λ k. slice_index (row_of rows v) k) (old_owner h e u at_u) in
      omega (arith, up, moved, old_place h e u at_u)

  was : (u v : ℕ) → u < t → v < t → IsUpTo g new u v → IsUpTo h rows u v
  was u v at_u at_v up =
      let moved : last_in new v (owner g u) ≡ last_in rows v (owner h u)
      = ap (λ (z : List ℕ). slice_index z (owner g u)) (old_row v at_v) ∙ ap (λ k. slice_index (row_of rows v) k) (old_owner h e u at_u) in
      omega (arith, up, moved, old_place h e u at_u)

  -- ---- the new one comes before none of those

  last_of_all : (v : ℕ) → v < t → IsUpTo g new t v → ⊥
  last_of_all v at_v up = go (ordered.held.places v e.owner at_v)
    where
      bound : e.place ≤ last_in rows v e.owner
      bound =
          let moved : last_in new v (owner g t) ≡ last_in rows v e.owner
          = ap (λ (z : List ℕ). slice_index z (owner g t)) (old_row v at_v) ∙ ap (λ k. slice_index (row_of rows v) k) own_owner in
          omega (arith, up, moved, own_place)

      go : IsPlaceOf h e.owner (last_in rows v e.owner) → ⊥
      go (inl none) = absurd (omega (arith, none, bound, may.placed))
      go (inr (u, some, below, owned, is)) = absurd (omega (arith, is, bound, may.session u some below owned))

  itself : IsUpTo g new t t
  itself =
      let moved : last_in new t (owner g t) ≡ slice_index row e.owner
      = ap (λ (z : List ℕ). slice_index z (owner g t)) new_row ∙ ap (λ k. slice_index row k) own_owner in
      omega (arith, moved, own_place, over.itself)

  -- ---- what comes before the new one comes before one right before it, or is that one

  through : (u : ℕ) → u < t → IsUpTo g new u t → (p : ℕ) × Contains parents p × IsUpTo h rows u p
  through u at_u up = first (cases_lt 0 u)
    where
      bound : place h u ≤ slice_index row (owner h u)
      bound =
          let moved : last_in new t (owner g u) ≡ slice_index row (owner h u)
          = ap (λ (z : List ℕ). slice_index z (owner g u)) new_row ∙ ap (λ k. slice_index row k) (old_owner h e u at_u) in
          omega (arith, up, moved, old_place h e u at_u)

      nought : (n : ℕ) → n ≡ 0 → place h n ≡ 0
      nought n is = ap (λ k. place h k) is ∙ ap (λ (z : Entry). z.place) delivered.first

      other : 0 < u → (slice_index row (owner h u) ≡ 0) ⊎ ((p : ℕ) × Contains parents p × (slice_index row (owner h u) ≡ last_in rows p (owner h u)))
          → (p : ℕ) × Contains parents p × IsUpTo h rows u p
      other some (inl none) = absurd (omega (arith, none, bound, delivered.placed u some at_u))
      other some (inr (p, there, is)) = (p, there, omega (arith, is, bound))

      before : ((p : ℕ) × Contains parents p × ((u ≡ p) ⊎ IsSessionPair g u p)) → (p : ℕ) × Contains parents p × IsUpTo h rows u p
      before (p, there, inl same) = (p, there, subst (λ (z : ℕ). IsUpTo h rows u z) same (ordered.itself u at_u))
      before (p, there, inr session) =
          (p, there, pairs u p (inl (session_was h e delivered may u p (parent_old p there) session)))

      same_session : 0 < u → owner h u ≡ e.owner → IsSessionPair g u t
      same_session some owned =
          lower_first g u t some (more h e u at_u) delivered.some (omega (arith, count_more h e)) (old_owner h e u at_u ∙ owned ∙ sym own_owner)
          (omega (arith, old_place h e u at_u, own_place, may.session u some at_u owned))

      by : 0 < u → (owner h u ≡ e.owner) ⊎ (owner h u ≡ e.owner → ⊥) → (p : ℕ) × Contains parents p × IsUpTo h rows u p
      by some (inl owned) = before (right.all u (inl (same_session some owned)))
      by some (inr apart) = other some ((over.others (owner h u) apart).attained)

      first : (0 < u) ⊎ (u ≤ 0) → (p : ℕ) × Contains parents p × IsUpTo h rows u p
      first (inl some) = by some (cases_eq (owner h u) e.owner)
      first (inr none) = let is = nought u (omega (arith, none)) in (right.one.0, right.one.1, omega (arith, is))

  onward : (u p : ℕ) → u < t → Contains parents p → IsUpTo h rows u p → IsUpTo g new u t
  onward u p at_u there up = by (cases_eq (owner h u) e.owner)
    where
      moved : last_in new t (owner g u) ≡ slice_index row (owner h u)
      moved = ap (λ (z : List ℕ). slice_index z (owner g u)) new_row ∙ ap (λ k. slice_index row k) (old_owner h e u at_u)

      lower : (0 < u) ⊎ (u ≤ 0) → owner h u ≡ e.owner → place h u ≤ e.place
      lower (inl some) owned = omega (arith, may.session u some at_u owned)
      lower (inr none) owned =
          let zeroth : u ≡ 0 = omega (arith, none) in
          let is = ap (λ k. place h k) zeroth ∙ ap (λ (z : Entry). z.place) delivered.first in
          omega (arith, is)

      by : (owner h u ≡ e.owner) ⊎ (owner h u ≡ e.owner → ⊥) → IsUpTo g new u t
      by (inl owned) =
          let own = ap (λ k. slice_index row k) owned ∙ over.itself in omega (arith, own, moved, old_place h e u at_u, lower (cases_lt 0 u) owned)
      by (inr apart) = omega (arith, up, moved, old_place h e u at_u, (over.others (owner h u) apart).greatest p there)

  -- ---- the rows are an order again

  abbrev IsOldOrNew : ℕ → Type 0
  IsOldOrNew n = (n < t) ⊎ (n ≡ t)

  places : (v session : ℕ) → IsOldOrNew v → IsPlaceOf g session (last_in new v session)
  places v session kind = go kind
    where
      more_places : (z : ℕ) → IsPlaceOf h session z → IsPlaceOf g session z
      more_places z (inl none) = inl none
      more_places z (inr (u, some, below, owned, is)) =
          inr (u, some, more h e u below, old_owner h e u below ∙ owned, old_place h e u below ∙ is)

      by : (slice_index row session ≡ 0) ⊎ ((p : ℕ) × Contains parents p × (slice_index row session ≡ last_in rows p session))
          → IsPlaceOf g session (slice_index row session)
      by (inl none) = inl none
      by (inr (p, there, is)) =
          subst (λ (z : ℕ). IsPlaceOf g session z) (sym is) (more_places (last_in rows p session) (ordered.held.places p session (parent_old p there)))

      mine : (session ≡ e.owner) ⊎ (session ≡ e.owner → ⊥) → IsPlaceOf g session (slice_index row session)
      mine (inl same) =
          inr (
            t,
            delivered.some,
            omega (arith, count_more h e),
            own_owner ∙ sym same,
            own_place ∙ sym over.itself ∙ ap (λ k. slice_index row k) (sym same),
          )
      mine (inr apart) = by (over.others session apart).attained

      go : IsOldOrNew v → IsPlaceOf g session (last_in new v session)
      go (inl old) =
          subst (λ (z : List ℕ). IsPlaceOf g session (slice_index z session)) (sym (old_row v old))
          (more_places (last_in rows v session) (ordered.held.places v session old))
      go (inr is) =
          subst (λ (z : List ℕ). IsPlaceOf g session (slice_index z session)) (sym (ap (λ k. row_of new k) is ∙ new_row)) (mine (cases_eq session e.owner))

  up_itself : (v : ℕ) → IsOldOrNew v → IsUpTo g new v v
  up_itself v (inl old) = stays v v old old (ordered.itself v old)
  up_itself v (inr is) = subst (λ (z : ℕ). IsUpTo g new z z) (sym is) itself

  joined : (u v w : ℕ) → IsOldOrNew u → IsOldOrNew v → IsOldOrNew w → IsUpTo g new u v → IsUpTo g new v w → IsUpTo g new u w
  joined u v w at_u (inr is) at_w uv vw = end at_w
    where
      end : IsOldOrNew w → IsUpTo g new u w
      end (inl old) = absurd (last_of_all w old (subst (λ (z : ℕ). IsUpTo g new z w) is vw))
      end (inr also) = subst (λ (z : ℕ). IsUpTo g new u z) (is ∙ sym also) uv
  joined u v w (inr is) (inl old_v) at_w uv vw = absurd (last_of_all v old_v (subst (λ (z : ℕ). IsUpTo g new z v) is uv))
  joined u v w (inl old_u) (inl old_v) (inl old_w) uv vw =
      stays u w old_u old_w (ordered.joined u v w old_u old_v old_w (was u v old_u old_v uv) (was v w old_v old_w vw))
  joined u v w (inl old_u) (inl old_v) (inr is) uv vw =
      let by = through v old_v (subst (λ (z : ℕ). IsUpTo g new v z) is vw) in
      subst (λ (z : ℕ). IsUpTo g new u z) (sym is)
      (onward u by.0 old_u by.1 (ordered.joined u v by.0 old_u old_v (parent_old by.0 by.1) (was u v old_u old_v uv) by.2))

  apart : (u v : ℕ) → IsOldOrNew u → IsOldOrNew v → IsUpTo g new u v → IsUpTo g new v u → u ≡ v
  apart u v (inl old_u) (inl old_v) uv vu = ordered.apart u v old_u old_v (was u v old_u old_v uv) (was v u old_v old_u vu)
  apart u v (inl old_u) (inr is) uv vu = absurd (last_of_all u old_u (subst (λ (z : ℕ). IsUpTo g new z u) is vu))
  apart u v (inr is) (inl old_v) uv vu = absurd (last_of_all v old_v (subst (λ (z : ℕ). IsUpTo g new z v) is uv))
  apart u v (inr is) (inr also) uv vu = is ∙ sym also

  kind : (n : ℕ) → n < count g → IsOldOrNew n
  kind n below = old_or_new h e n below

  pub more_order : AreOrdered g new
  more_order = record {
    held = record {
      long = omega (arith, length-append rows (row ∷ []), ordered.held.long, count_more h e);
      places = λ v session below. places v session (kind v below);
    };
    itself = λ v below. up_itself v (kind v below);
    joined = λ u v w at_u at_v at_w uv vw. joined u v w (kind u at_u) (kind v at_v) (kind w at_w) uv vw;
    apart = λ u v at_u at_v uv vu. apart u v (kind u at_u) (kind v at_v) uv vu;
  }

  pub more_stays : (u v : ℕ) → u < t → v < t → IsUpTo h rows u v → IsUpTo g new u v
  more_stays = stays

  -- each pair is in order
  pub into_last : (a : ℕ) → IsCausalPair g a t → IsUpTo g new a t
  into_last a p = go (right.all a p)
    where
      old : a < t
      old = pair_rises g (delivered_more h e delivered may) a t p

      go : (p : ℕ) × Contains parents p × ((a ≡ p) ⊎ IsSessionPair g a p) → IsUpTo g new a t
      go (p, there, inl same) = onward a p old there (subst (λ (z : ℕ). IsUpTo h rows a z) same (ordered.itself a old))
      go (p, there, inr session) = onward a p old there (pairs a p (inl (session_was h e delivered may a p (parent_old p there) session)))

  pub more_pairs : OrdersPairs g new
  more_pairs a b p = go (kind b (pair_below g a b p).1)
    where
      go : IsOldOrNew b → IsUpTo g new a b
      go (inl old) =
          let was_pair = pair_was h e delivered may a b old p in
          stays a b (pair_below h a b was_pair).0 old (pairs a b was_pair)
      go (inr is) = subst (λ (z : ℕ). IsUpTo g new a z) (sym is) (into_last a (subst (λ (z : ℕ). IsCausalPair g a z) is p))

  -- where the rows say no more than what is right, and pairs are right, the new row doesn't either
  pub more_sound : (Led Leads : ℕ → ℕ → Type 0) → ((u v : ℕ) → Led u v → Leads u v) → ((u v w : ℕ) → Leads u v → Leads v w → Leads u w)
      → ((u v : ℕ) → IsCausalPair g u v → Leads u v) → AreSound h Led rows → AreSound g Leads new
  more_sound Led Leads keep join pair sound u v at_u at_v up = go (kind u at_u) (kind v at_v)
    where
      old_sound : (w : ℕ) → u < t → w < t → IsUpTo h rows u w → (u ≡ w) ⊎ Leads u w
      old_sound w old_u old_w p = by (sound u w old_u old_w p)
        where
          by : (u ≡ w) ⊎ Led u w → (u ≡ w) ⊎ Leads u w
          by (inl same) = inl same
          by (inr led) = inr (keep u w led)

      on : (p : ℕ) → Leads p t → (u ≡ p) ⊎ Leads u p → Leads u t
      on p last (inl same) = subst (λ (z : ℕ). Leads z t) (sym same) last
      on p last (inr first) = join u p t first last

      go : IsOldOrNew u → IsOldOrNew v → (u ≡ v) ⊎ Leads u v
      go (inl old_u) (inl old_v) = old_sound v old_u old_v (was u v old_u old_v up)
      go (inl old_u) (inr is) =
          let by = through u old_u (subst (λ (z : ℕ). IsUpTo g new u z) is up) in
          inr (subst (λ (z : ℕ). Leads u z) (sym is)
          (on by.0 (pair by.0 t (right.pairs by.0 by.1)) (old_sound by.0 old_u (parent_old by.0 by.1) by.2)))
      go (inr is) (inl old_v) = absurd (last_of_all v old_v (subst (λ (z : ℕ). IsUpTo g new z v) is up))
      go (inr is) (inr also) = inl (is ∙ sym also)
