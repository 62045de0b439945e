-- What all live sessions have observed reaches each transaction that comes later, and stays observed by all.
use Rattle.std.proofs.Common.{ℕ, ◌≡◌, ◌<◌, ◌≤◌, ◌⊎◌, inl, inr, List, refl, sym, ap, subst, ◌∙◌, arith}
use Rattle.std.proofs.lemmas.Bool.{cases_eq}
use Rattle.tcc_reads.specs.History.{Entry, History, count, owner, place}
use Rattle.tcc_graph.specs.Relations.{IsSessionPair}
use Rattle.tcc_graph.proofs.Pairs.{lower_first}
use Rattle.tcc_graph.proofs.Walking.{pair_walk, reached_append}
use Rattle.tcc_watch.specs.Delivered.{IsDelivered, with_last}
use Rattle.tcc_watch.proofs.Arrived.{count_more, more, new_entry, old_or_new, old_owner, old_place, reached_stays}
use Rattle.tcc_forget.specs.Cases.{Observes}
use Rattle.tcc_forget.specs.Covers.{ComesOn, HasObserved, IsKnown, IsLastOf}

module _ (h : History) (live : List ℕ) (e : Entry) (delivered : IsDelivered h) (on : ComesOn h live e) where
  abbrev g : History
  g = with_last h e

  abbrev t : ℕ
  t = count h

  pub new_owner : owner g t ≡ e.owner
  new_owner = ap (λ (z : Entry). z.owner) (new_entry h e t refl)

  pub new_place : place g t ≡ e.place
  new_place = ap (λ (z : Entry). z.place) (new_entry h e t refl)

  -- the last of its session is right before it
  pub last_pair : (l : ℕ) → IsLastOf h e.owner l → IsSessionPair g l t
  last_pair l last =
      let lower : place h l < e.place = on.may.session l last.some last.below last.owned in
      lower_first g l t last.some (more h e l last.below) delivered.some (omega (arith, count_more h e))
      (old_owner h e l last.below ∙ last.owned ∙ sym new_owner) (omega (arith, lower, new_place, old_place h e l last.below))

  pub last_observed : (l : ℕ) → IsLastOf h e.owner l → Observes h e l
  last_observed l last = let w = pair_walk g l t (inl (last_pair l last)) in (w.0, w.1)

  pub known_observed : (w : ℕ) → IsKnown h live w → Observes h e w
  known_observed w known = go (known e.owner on.stays)
    where
      go : (l : ℕ) × IsLastOf h e.owner l × HasObserved h w l → Observes h e w
      go (l, last, inl same) = subst (λ (z : ℕ). Observes h e z) (sym same) (last_observed l last)
      go (l, last, inr reached) = reached_append g w l t (reached_stays h e w l reached) (last_observed l last)

  -- the transaction that comes is the last of its session
  new_last : (session : ℕ) → session ≡ e.owner → IsLastOf g session t
  new_last session is = record {
    some = delivered.some;
    below = omega (arith, count_more h e);
    owned = new_owner ∙ sym is;
    last = λ n some below owned. last n some (old_or_new h e n below) owned;
  }
    where
      last : (n : ℕ) → 0 < n → (n < count h) ⊎ (n ≡ count h) → owner g n ≡ session → place g n ≤ place g t
      last n some (inl old) owned =
          let lower : place h n < e.place = on.may.session n some old (sym (old_owner h e n old) ∙ owned ∙ is) in
          omega (arith, lower, new_place, old_place h e n old)
      last n some (inr new) owned = let same = ap (λ z. place g z) new in omega (arith, same)

  -- and other sessions have theirs
  old_last : (session l : ℕ) → (session ≡ e.owner → ⊥) → IsLastOf h session l → IsLastOf g session l
  old_last session l apart is = record {
    some = is.some;
    below = more h e l is.below;
    owned = old_owner h e l is.below ∙ is.owned;
    last = λ n some below owned. last n some (old_or_new h e n below) owned;
  }
    where
      last : (n : ℕ) → 0 < n → (n < count h) ⊎ (n ≡ count h) → owner g n ≡ session → place g n ≤ place g l
      last n some (inl old) owned =
          let upto : place h n ≤ place h l = is.last n some old (sym (old_owner h e n old) ∙ owned) in
          omega (arith, upto, old_place h e n old, old_place h e l is.below)
      last n some (inr new) owned = absurd (apart (sym owned ∙ ap (λ z. owner g z) new ∙ new_owner))

  pub known_stays : (w : ℕ) → IsKnown h live w → IsKnown g live w
  known_stays w known session is_live = go (known session is_live) (cases_eq session e.owner)
    where
      go : (l : ℕ) × IsLastOf h session l × HasObserved h w l → (session ≡ e.owner) ⊎ (session ≡ e.owner → ⊥)
          → (l : ℕ) × IsLastOf g session l × HasObserved g w l
      go last (inl own) = (t, new_last session own, inr (known_observed w known))
      go (l, last, inl same) (inr other) = (l, old_last session l other last, inl same)
      go (l, last, inr reached) (inr other) = (l, old_last session l other last, inr (reached_stays h e w l reached))
