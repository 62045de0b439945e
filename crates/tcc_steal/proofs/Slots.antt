-- Searches that workers return, in any order, and their slots by their starts.
use Rattle.std.proofs.Common.{◌≡◌, ◌<◌, ◌++◌, ◌⊎◌, inl, inr, ℕ, zero, suc, List, [], ◌∷◌, length, length-set, set}
use Rattle.std.proofs.Common.{replicate, get_or, All, Option, None, Some, slice_get, refl, sym, ◌∙◌, ap}
use Rattle.std.specs.Prelude.{Result, Ok, IfOk}
use Rattle.std.proofs.Common.{subst}
use Rattle.std.proofs.lemmas.List.Elements.{All-pop, All-push, All-weaker}
use Rattle.std.proofs.lemmas.Option.{slice_get_read}
use Rattle.tcc_derive.specs.Prices.{Tables}
use Rattle.tcc_bound.specs.declared.known.Known.{Known}
use Rattle.tcc_bound.specs.Seated.{BoundId, Seated}
use Rattle.tcc_txn.specs.declared.memory.NoMemory.{NoMemory}
use Rattle.tcc_steal.specs.private.Working.{KnowsMore, IsSeat, IsSearched, IsShare, AreShares, AreKept, MayTakeIn, whole_row}
use Rattle.tcc_steal.specs.declared.worker_loop.Share.{Share}
use Rattle.tcc_steal.specs.declared.searched.EndedSearch.{EndedSearch}
use Rattle.tcc_steal.proofs.Rows.{ended_more}

no_search : (e : EndedSearch) → None ≡ Some e → ⊥
no_search e same = cc

one_search : (a b : EndedSearch) → Some a ≡ Some b → a ≡ b
one_search a b same = cc

pub knows_more : {t : Tables} {workers : ℕ} {old new : Known} {e : EndedSearch} → KnowsMore old new → IsSearched t workers old e → IsSearched t workers new e
knows_more {old = old} {new = new} {e = e} more is = record {
  start = is.start;
  worker = is.worker;
  done = λ j priced. ended_more j old new e.start (whole_row e.start e.row) more (is.done j priced);
}

-- ---- searches in any order

module _ (t : Tables) (workers : ℕ) {old new : Known} (more : KnowsMore old new) (es : List EndedSearch) (all : All (IsSearched t workers old) es) where
  pub all_more : All (IsSearched t workers new) es
  all_more = All-weaker (IsSearched t workers old) (IsSearched t workers new) (λ e is. knows_more more is) es all

  -- one more search, made when more was known
  pub one_more : (e : EndedSearch) → IsSearched t workers new e → All (IsSearched t workers new) (es ++ e ∷ [])
  one_more e is = All-push (IsSearched t workers new) es e all_more is

-- ---- shares

pub next_share : {t : Tables} {id : BoundId} {workers : ℕ} {own : Seated} {slots : List (Option EndedSearch)} → IsSeat t id own → length slots ≡ length t.prices
    → AreKept t workers own.known slots → (shares left : List (Result Share NoMemory)) (x : Result Share NoMemory) (share : Share)
    → shares ≡ left ++ x ∷ [] → x ≡ Ok share → AreShares t id workers shares → MayTakeIn t id workers own slots share × AreShares t id workers left
next_share {t} {id} {workers} seat long kept shares left x share parts is all =
    let IsOne : Result Share NoMemory → Type 0 = λ s. IfOk s (IsShare t id workers) in
    let (fewer, one) = All-pop IsOne shares left (Some x) parts all in
    (record { seat = seat; long = long; kept = kept; share = subst IsOne is one }, fewer)

-- ---- slots

pub kept_none : (t : Tables) (workers : ℕ) (known : Known) (n : ℕ) → AreKept t workers known (replicate n None)
kept_none t workers known n k e at = absurd (none_at n k at)
  where
    apart : None ≡ Some (Some e) → ⊥
    apart same = cc

    inner : Some None ≡ Some (Some e) → ⊥
    inner same = cc

    none_at : (n k : ℕ) → slice_get (replicate n None) k ≡ Some (Some e) → ⊥
    none_at zero k at = apart at
    none_at (suc n) zero at = inner at
    none_at (suc n) (suc k) at = none_at n k at

-- what is in a slot after one is set
at_slot : (slots : List (Option EndedSearch)) (i k : ℕ) (o : Option EndedSearch) (e : EndedSearch) → slice_get (set slots i o) k ≡ Some (Some e)
    → ((k ≡ i) × (o ≡ Some e)) ⊎ (slice_get slots k ≡ Some (Some e))
at_slot [] i k o e at = inr at
at_slot (p ∷ slots) zero zero o e at = inl (refl, inside o at)
  where
    inside : (o : Option EndedSearch) → Some o ≡ Some (Some e) → o ≡ Some e
    inside o same = cc
at_slot (p ∷ slots) zero (suc k) o e at = inr at
at_slot (p ∷ slots) (suc i) zero o e at = inr at
at_slot (p ∷ slots) (suc i) (suc k) o e at = go (at_slot slots i k o e at)
  where
    go : ((k ≡ i) × (o ≡ Some e)) ⊎ (slice_get slots k ≡ Some (Some e)) → ((suc k ≡ suc i) × (o ≡ Some e)) ⊎ (slice_get slots k ≡ Some (Some e))
    go (inl here) = inl (ap suc here.0, here.1)
    go (inr there) = inr there

module _ {t : Tables} {workers : ℕ} {known : Known} (slots : List (Option EndedSearch)) (kept : AreKept t workers known slots) where
  pub kept_more : {new : Known} → KnowsMore known new → AreKept t workers new slots
  kept_more more k e at = let w = kept k e at in (w.0, knows_more more w.1)

  pub kept_emptied : (i : ℕ) (o : Option EndedSearch) → o ≡ None → AreKept t workers known (set slots i o)
  kept_emptied i o none k e at = go (at_slot slots i k o e at)
    where
      go : ((k ≡ i) × (o ≡ Some e)) ⊎ (slice_get slots k ≡ Some (Some e)) → (e.start ≡ k) × IsSearched t workers known e
      go (inl here) = absurd (no_search e (sym none ∙ here.1))
      go (inr there) = kept k e there

  kept_filled : {x : EndedSearch} → IsSearched t workers known x → AreKept t workers known (set slots x.start (Some x))
  kept_filled {x} is k e at = go (at_slot slots x.start k (Some x) e at)
    where
      go : ((k ≡ x.start) × (Some x ≡ Some e)) ⊎ (slice_get slots k ≡ Some (Some e)) → (e.start ≡ k) × IsSearched t workers known e
      go (inl here) = subst (λ (y : EndedSearch). (y.start ≡ k) × IsSearched t workers known y) (one_search x e here.1) (sym here.0, is)
      go (inr there) = kept k e there

  -- the last of some searches goes to its slot
  pub last_filled : {n : ℕ} → length slots ≡ n → (searches left : List EndedSearch) (x : EndedSearch) → searches ≡ left ++ x ∷ []
      → All (IsSearched t workers known) searches
      → All (IsSearched t workers known) left × AreKept t workers known (set slots x.start (Some x)) × (length (set slots x.start (Some x)) ≡ n)
  last_filled long searches left x parts all =
      let (fewer, is) = All-pop (IsSearched t workers known) searches left (Some x) parts all in
      (fewer, kept_filled is, length-set slots x.start (Some x) ∙ long)

  -- the search that is in a slot
  pub kept_at : (i : ℕ) (o : Option EndedSearch) (e : EndedSearch) → i < length slots → o ≡ get_or slots i o → o ≡ Some e
      → (e.start ≡ i) × IsSearched t workers known e
  kept_at i o e inside here some =
      kept i e (slice_get_read slots (length slots) i o refl inside here ∙ ap (λ (x : Option EndedSearch). Some x) some)

-- ---- a share, search by search

-- the searches that are left of a share, and the slots so far: what holds of them wherever the share may be taken in
abbrev pub AreTaking : (Tables → ℕ → Type 0) → Known → ℕ → List EndedSearch → List (Option EndedSearch) → Type 0
AreTaking May known n searches slots =
    ((t : Tables) (workers : ℕ) → May t workers → All (IsSearched t workers known) searches × AreKept t workers known slots)
    × (length slots ≡ n)
    × All (λ (e : EndedSearch). e.start < n) searches

module _ {May : Tables → ℕ → Type 0} {known : Known} {n : ℕ} (searches left : List EndedSearch) (slots : List (Option EndedSearch)) (x : EndedSearch)
    (is : AreTaking May known n searches slots) (parts : searches ≡ left ++ x ∷ []) where
  inside : All (λ (e : EndedSearch). e.start < n) left
  inside = (All-pop (λ (e : EndedSearch). e.start < n) searches left (Some x) parts is.2).0

  -- the search goes to its slot
  pub search_kept : AreTaking May known n left (set slots x.start (Some x))
  search_kept = (
    λ t workers may.
        (let (all, kept) = is.0 t workers may in
        let (fewer, filled, same) = last_filled slots kept is.1 searches left x parts all in
        (fewer, filled)),
    length-set slots x.start (Some x) ∙ is.1,
    inside,
  )

  -- the search is dropped, since its slot is full
  pub search_let_go : AreTaking May known n left slots
  search_let_go = (
    λ t workers may.
        (let (all, kept) = is.0 t workers may in
        ((All-pop (IsSearched t workers known) searches left (Some x) parts all).0, kept)),
    is.1,
    inside,
  )
