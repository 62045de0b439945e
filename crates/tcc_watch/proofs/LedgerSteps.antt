-- One transaction more in a ledger, or one session more.
use Rattle.std.proofs.Common.{ℕ, ◌+◌, ◌≡◌, ◌<◌, ◌≤◌, ◌++◌, ◌⊎◌, inl, inr, true, false, List, [], ◌∷◌, length, length-append, get_or, refl, sym, ap, subst, ◌∙◌, arith}
use Rattle.std.specs.Prelude.{◌↔◌}
use Rattle.std.specs.List.{Contains}
use Rattle.std.specs.Str.{bytes_eq}
use Rattle.std.proofs.Math.ListN.{get_or-append}
use Rattle.std.proofs.lemmas.Bool.{cases_Bool, cases_lt, false≢true}
use Rattle.std.proofs.lemmas.List.{get_or_push, get_or_default}
use Rattle.tcc_txn.specs.Transactions.{Transaction}
use Rattle.tcc_txn.specs.declared.op.Op.TheVariants.{Put}
use Rattle.tcc_reads.specs.History.{Entry, History, count, owner, place}
use Rattle.tcc_reads.proofs.Ties.{itself, same_name}
use Rattle.tcc_graph.specs.Keys.{has_name}
use Rattle.tcc_watch.specs.Delivered.{MayCome, with_last}
use Rattle.tcc_watch.specs.Ledger.{IsEntered, IsFrom, IsLedger, IsNumbered, IsPlaced, Lists, WritesOnce, session_of}
use Rattle.tcc_watch.specs.private.LedgerSteps.{AreNew, IsLonger, IsNext}
use Rattle.tcc_watch.proofs.Arrived.{count_more, more, new_entry, old_entry, old_or_new, old_owner, old_place}

-- two names are one, or not
pub same_or_not : (a b : List ℕ) → (a ≡ b) ⊎ (a ≡ b → ⊥)
same_or_not a b = go (cases_Bool (bytes_eq a b))
  where
    go : (bytes_eq a b ≡ true) ⊎ (bytes_eq a b ≡ false) → (a ≡ b) ⊎ (a ≡ b → ⊥)
    go (inl is) = inl (same_name a b is)
    go (inr other) = inr (λ same. false≢true (sym other ∙ ap (λ (z : List ℕ). bytes_eq a z) (sym same) ∙ itself a))

-- ---- longer lists

module _ (old new : Lists) (name : List ℕ) (txn : Transaction) (longer : IsLonger old new name txn) where
  placed_by : (other : List ℕ) (p : ℕ) (t : Transaction) → (other ≡ name) ⊎ (other ≡ name → ⊥) → IsPlaced old other p t → IsPlaced new other p t
  placed_by other p t (inl same) (k, within, at, is) =
      let list : new other ≡ old other ++ txn ∷ []
      = ap new same ∙ longer.here ∙ ap (λ (z : List ℕ). old z ++ txn ∷ []) (sym same) in (
        k,
        omega (arith, within, ap length list, length-append (old other) (txn ∷ [])),
        at,
        ap (λ (z : List Transaction). get_or z k t) list ∙ get_or-append (old other) (txn ∷ []) t k within ∙ is,
      )
  placed_by other p t (inr apart) (k, within, at, is) =
      let list = longer.others other apart in
      (k, subst (λ (z : List Transaction). k < length z) (sym list) within, at, ap (λ (z : List Transaction). get_or z k t) list ∙ is)

  pub placed_still : (other : List ℕ) (p : ℕ) (t : Transaction) → IsPlaced old other p t → IsPlaced new other p t
  placed_still other p t at = placed_by other p t (same_or_not other name) at

  pub placed_new : IsPlaced new name (length (old name) + 1) txn
  placed_new = (
    length (old name),
    omega (arith, ap length longer.here, length-append (old name) (txn ∷ [])),
    refl,
    ap (λ (z : List Transaction). get_or z (length (old name)) txn) longer.here ∙ get_or_push (old name) txn txn (length (old name)) refl,
  )

  -- what has a place now had it, or is the new one
  pub record IsTheNew (other : List ℕ) (p : ℕ) (t : Transaction) : Type 0 where
    pub name_is : other ≡ name
    pub place_is : p ≡ length (old name) + 1
    pub txn_is : t ≡ txn

  pub placed_before : (other : List ℕ) (p : ℕ) (t : Transaction) → IsPlaced new other p t → IsPlaced old other p t ⊎ IsTheNew other p t
  placed_before other p t (k, within, at, is) = go (same_or_not other name)
    where
      at_end : other ≡ name → new other ≡ old other ++ txn ∷ [] → (k < length (old other)) ⊎ (length (old other) ≤ k)
          → IsPlaced old other p t ⊎ IsTheNew other p t
      at_end same list (inl early) =
          inl (k, early, at, sym (get_or-append (old other) (txn ∷ []) t k early) ∙ ap (λ (z : List Transaction). get_or z k t) (sym list) ∙ is)
      at_end same list (inr late) =
          let last : length (old other) ≡ k = omega (arith, late, within, ap length list, length-append (old other) (txn ∷ [])) in
          inr (record {
            name_is = same;
            place_is = omega (arith, at, last, ap (λ (z : List ℕ). length (old z)) same);
            txn_is = sym is ∙ ap (λ (z : List Transaction). get_or z k t) list ∙ get_or_push (old other) txn t k last;
          })

      go : (other ≡ name) ⊎ (other ≡ name → ⊥) → IsPlaced old other p t ⊎ IsTheNew other p t
      go (inl same) =
          at_end same (ap new same ∙ longer.here ∙ ap (λ (z : List ℕ). old z ++ txn ∷ []) (sym same)) (cases_lt k (length (old other)))
      go (inr apart) =
          let list = longer.others other apart in
          inl (k, subst (λ (z : List Transaction). k < length z) list within, at, ap (λ (z : List Transaction). get_or z k t) (sym list) ∙ is)

  -- ---- what is written

  written_once : ((other : List ℕ) (p : ℕ) (t : Transaction) → IsPlaced old other p t → WritesOnce t.ops) → WritesOnce txn.ops
      → (other : List ℕ) (p : ℕ) (t : Transaction) → IsPlaced new other p t → WritesOnce t.ops
  written_once before once other p t at = go (placed_before other p t at)
    where
      go : IsPlaced old other p t ⊎ IsTheNew other p t → WritesOnce t.ops
      go (inl was) = before other p t was
      go (inr is) = subst (λ (z : Transaction). WritesOnce z.ops) (sym is.txn_is) once

  written : (names : List (List ℕ)) (h : History) → IsLedger old names h → AreNew old txn.ops
      → (a b : List ℕ) (p q : ℕ) (t u : Transaction) (x : List ℕ) (v : ℕ) → IsPlaced new a p t → IsPlaced new b q u → Contains t.ops (Put x v) → Contains u.ops (Put x v)
      → (a ≡ b) × (p ≡ q)
  written names h ledger fresh a b p q t u x v at_a at_b in_t in_u = go (placed_before a p t at_a) (placed_before b q u at_b)
    where
      go : IsPlaced old a p t ⊎ IsTheNew a p t → IsPlaced old b q u ⊎ IsTheNew b q u → (a ≡ b) × (p ≡ q)
      go (inl was) (inl also) = ledger.written a b p q t u x v was also in_t in_u
      go (inl was) (inr new_b) = absurd (fresh.fresh a p t x v was in_t (subst (λ (z : Transaction). Contains z.ops (Put x v)) new_b.txn_is in_u))
      go (inr new_a) (inl was) = absurd (fresh.fresh b q u x v was in_u (subst (λ (z : Transaction). Contains z.ops (Put x v)) new_a.txn_is in_t))
      go (inr new_a) (inr new_b) = (new_a.name_is ∙ sym new_b.name_is, new_a.place_is ∙ sym new_b.place_is)

  -- ---- an aborted one

  pub from_still : (names : List (List ℕ)) (h : History) (x : List ℕ) (v a : ℕ) → IsFrom old names h x v a → IsFrom new names h x v a
  from_still names h x v a (below, inl initial) = (below, inl initial)
  from_still names h x v a (below, inr (other, some, (t, (at, ended), shown))) =
      (below, inr (other, some, (t, (placed_still (session_of names h a) (place h a) t at, ended), shown)))

  pub aborted_more : (names : List (List ℕ)) (h : History) → IsLedger old names h → AreNew old txn.ops → txn.committed ≡ false → IsLedger new names h
  aborted_more names h ledger fresh gone = record {
    some = ledger.some;
    first = ledger.first;
    apart = ledger.apart;
    owned = ledger.owned;
    once = ledger.once;
    each = λ n some below. let w = ledger.each n some below in (
      w.0,
      record {
        numbered = (placed_still (session_of names h n) (place h n) w.0 w.1.numbered.0, w.1.numbered.1);
        own = w.1.own;
        writes = w.1.writes;
        read = λ x a there. let r = w.1.read x a there in (r.0, r.1, from_still names h x r.0 a r.2);
        reads = λ x v reads. let r = w.1.reads x v reads in (r.0, r.1, from_still names h x v r.0 r.2, r.3);
      },
    );
    all = λ other p t at ended. all other p t ended (placed_before other p t at);
    written = written names h ledger fresh;
    written_once = written_once ledger.written_once fresh.once;
  }
    where
      all : (other : List ℕ) (p : ℕ) (t : Transaction) → t.committed ≡ true → IsPlaced old other p t ⊎ IsTheNew other p t
          → (n : ℕ) × (0 < n) × (n < count h) × (session_of names h n ≡ other) × (place h n ≡ p)
      all other p t ended (inl was) = ledger.all other p t was ended
      all other p t ended (inr is) = absurd (false≢true (sym gone ∙ ap (λ (z : Transaction). z.committed) (sym is.txn_is) ∙ ended))

  -- ---- a committed one

  module _ (names : List (List ℕ)) (h : History) (e : Entry) (ledger : IsLedger old names h) (next : IsNext old names h e name txn) (fresh : AreNew old txn.ops) where
    abbrev g : History
    g = with_last h e

    session_still : (n : ℕ) → n < count h → session_of names g n ≡ session_of names h n
    session_still n below = ap (λ (z : ℕ). get_or names z []) (old_owner h e n below)

    pub numbered_still : (n : ℕ) (t : Transaction) → n < count h → IsNumbered old names h n t → IsNumbered new names g n t
    numbered_still n t below (at, ended) = (
      subst (λ (z : List ℕ). IsPlaced new z (place g n) t) (sym (session_still n below))
          (subst (λ (z : ℕ). IsPlaced new (session_of names h n) z t) (sym (old_place h e n below)) (placed_still (session_of names h n) (place h n) t at)),
      ended,
    )

    from_more : (x : List ℕ) (v a : ℕ) → IsFrom old names h x v a → IsFrom new names g x v a
    from_more x v a (below, inl initial) = (more h e a below, inl initial)
    from_more x v a (below, inr (other, some, (t, numbered, shown))) = (more h e a below, inr (other, some, (t, numbered_still a t below numbered, shown)))

    abbrev new_number : ℕ
    new_number = count h

    entered_still : (n : ℕ) (t : Transaction) → n < count h → IsEntered old names h n t → IsEntered new names g n t
    entered_still n t below w = record {
      numbered = numbered_still n t below w.numbered;
      own = w.own;
      writes = λ x. subst (λ (z : Entry). (has_name z.writes x ≡ true) ↔ ((v : ℕ) × Contains t.ops (Put x v))) (sym (old_entry h e n below)) (w.writes x);
      read = λ x a there.
          let r = w.read x a (subst (λ (z : Entry). Contains z.reads (x, a)) (old_entry h e n below) there) in (r.0, r.1, from_more x r.0 a r.2);
      reads = λ x v reads.
          let r = w.reads x v reads in
          (r.0, r.1, from_more x v r.0 r.2, subst (λ (z : Entry). Contains z.reads (x, r.0)) (sym (old_entry h e n below)) r.3);
    }

    pub entered_new : (n : ℕ) → n ≡ count h → IsEntered new names g n txn
    entered_new n is = record {
      numbered = (
        subst (λ (z : Entry). IsPlaced new (get_or names z.owner []) z.place txn) (sym (new_entry h e n is))
            (subst (λ (z : List ℕ). IsPlaced new z e.place txn) (sym next.named) (subst (λ (z : ℕ). IsPlaced new name z txn) (sym next.placed) placed_new)),
        next.ended,
      );
      own = next.own;
      writes = λ x. subst (λ (z : Entry). (has_name z.writes x ≡ true) ↔ ((v : ℕ) × Contains txn.ops (Put x v))) (sym (new_entry h e n is)) (next.writes x);
      read = λ x a there.
          let r = next.read x a (subst (λ (z : Entry). Contains z.reads (x, a)) (new_entry h e n is) there) in (r.0, r.1, from_more x r.0 a r.2);
      reads = λ x v reads.
          let r = next.reads x v reads in
          (r.0, omega (arith, r.1.0, is), from_more x v r.0 r.1, subst (λ (z : Entry). Contains z.reads (x, r.0)) (sym (new_entry h e n is)) r.2);
    }

    owned : (n : ℕ) → 0 < n → (n < count h) ⊎ (n ≡ count h) → owner g n < length names
    owned n some (inl below) = subst (λ (z : ℕ). z < length names) (sym (old_owner h e n below)) (ledger.owned n some below)
    owned n some (inr is) = subst (λ (z : Entry). z.owner < length names) (sym (new_entry h e n is)) next.owned

    each : (n : ℕ) → 0 < n → (n < count h) ⊎ (n ≡ count h) → (t : Transaction) × IsEntered new names g n t
    each n some (inl below) = let w = ledger.each n some below in (w.0, entered_still n w.0 below w.1)
    each n some (inr is) = (txn, entered_new n is)

    -- what came before in the session has a lower place
    lower : (a : ℕ) → 0 < a → a < count h → owner h a ≡ e.owner → place h a < e.place
    lower a some below same =
        let w = ledger.each a some below in
        let k = w.1.numbered.0 in
        let named : session_of names h a ≡ name = ap (λ (z : ℕ). get_or names z []) same ∙ next.named in
        omega (arith, k.1, k.2, next.placed, ap (λ (z : List ℕ). length (old z)) named)

    once : (a b : ℕ) → 0 < a → 0 < b → (a < count h) ⊎ (a ≡ count h) → (b < count h) ⊎ (b ≡ count h) → owner g a ≡ owner g b → place g a ≡ place g b → a ≡ b
    once a b some_a some_b (inl low) (inl also) owners places =
        ledger.once a b some_a low some_b also (sym (old_owner h e a low) ∙ owners ∙ old_owner h e b also) (sym (old_place h e a low) ∙ places ∙ old_place h e b also)
    once a b some_a some_b (inl low) (inr is) owners places =
        let same : owner h a ≡ e.owner = sym (old_owner h e a low) ∙ owners ∙ ap (λ (z : Entry). z.owner) (new_entry h e b is) in
        let at : place h a ≡ e.place = sym (old_place h e a low) ∙ places ∙ ap (λ (z : Entry). z.place) (new_entry h e b is) in
        absurd (omega (arith, lower a some_a low same, at))
    once a b some_a some_b (inr is) (inl low) owners places =
        let same : owner h b ≡ e.owner = sym (old_owner h e b low) ∙ sym owners ∙ ap (λ (z : Entry). z.owner) (new_entry h e a is) in
        let at : place h b ≡ e.place = sym (old_place h e b low) ∙ sym places ∙ ap (λ (z : Entry). z.place) (new_entry h e a is) in
        absurd (omega (arith, lower b some_b low same, at))
    once a b some_a some_b (inr is) (inr also) owners places = is ∙ sym also

    all : (other : List ℕ) (p : ℕ) (t : Transaction) → t.committed ≡ true → IsPlaced old other p t ⊎ IsTheNew other p t
        → (n : ℕ) × (0 < n) × (n < count g) × (session_of names g n ≡ other) × (place g n ≡ p)
    all other p t ended (inl was) =
        let w = ledger.all other p t was ended in
        (w.0, w.1, more h e w.0 w.2, session_still w.0 w.2 ∙ w.3, old_place h e w.0 w.2 ∙ w.4)
    all other p t ended (inr is) = (
      count h,
      ledger.some,
      omega (arith, count_more h e),
      ap (λ (z : Entry). get_or names z.owner []) (new_entry h e (count h) refl) ∙ next.named ∙ sym is.name_is,
      ap (λ (z : Entry). z.place) (new_entry h e (count h) refl) ∙ next.placed ∙ sym is.place_is,
    )

    pub committed_more : IsLedger new names g
    committed_more = record {
      some = omega (arith, count_more h e);
      first = old_entry h e 0 ledger.some ∙ ledger.first;
      apart = ledger.apart;
      owned = λ n some below. owned n some (old_or_new h e n below);
      once = λ a b some_a at_a some_b at_b owners places. once a b some_a some_b (old_or_new h e a at_a) (old_or_new h e b at_b) owners places;
      each = λ n some below. each n some (old_or_new h e n below);
      all = λ other p t at ended. all other p t ended (placed_before other p t at);
      written = written names h ledger fresh;
      written_once = written_once ledger.written_once fresh.once;
    }

    -- so it may come
    pub may_come : MayCome h e
    may_come = record {
      placed = omega (arith, next.placed);
      session = λ n some below same. lower n some below same;
      sources = λ k d inside. let r = next.read (get_or e.reads k d).0 (get_or e.reads k d).1 (k, inside, get_or_default e.reads k (get_or e.reads k d) d inside) in r.2.0;
    }

-- ---- one session more

module _ (lists : Lists) (names : List (List ℕ)) (h : History) (name : List ℕ) (ledger : IsLedger lists names h)
    (unknown : (k : ℕ) → k < length names → get_or names k [] ≡ name → ⊥) where
  abbrev longer_names : List (List ℕ)
  longer_names = names ++ name ∷ []

  named_still : (k : ℕ) → k < length names → get_or longer_names k [] ≡ get_or names k []
  named_still k inside = get_or-append names (name ∷ []) [] k inside

  its_name : (n : ℕ) → 0 < n → n < count h → session_of longer_names h n ≡ session_of names h n
  its_name n some below = named_still (owner h n) (ledger.owned n some below)

  pub numbered_there : (n : ℕ) (t : Transaction) → 0 < n → n < count h → IsNumbered lists names h n t → IsNumbered lists longer_names h n t
  numbered_there n t some below (at, ended) = (subst (λ (z : List ℕ). IsPlaced lists z (place h n) t) (sym (its_name n some below)) at, ended)

  from_there : (x : List ℕ) (v a : ℕ) → IsFrom lists names h x v a → IsFrom lists longer_names h x v a
  from_there x v a (below, inl initial) = (below, inl initial)
  from_there x v a (below, inr (other, some, (t, numbered, shown))) = (below, inr (other, some, (t, numbered_there a t some below numbered, shown)))

  apart : (i k : ℕ) → (i < length names) ⊎ (length names ≤ i) → (k < length names) ⊎ (length names ≤ k) → i < length longer_names → k < length longer_names
      → get_or longer_names i [] ≡ get_or longer_names k [] → i ≡ k
  apart i k (inl early) (inl also) at_i at_k same = ledger.apart i k early also (sym (named_still i early) ∙ same ∙ named_still k also)
  apart i k (inl early) (inr late) at_i at_k same =
      let last : length names ≡ k = omega (arith, late, at_k, length-append names (name ∷ [])) in
      absurd (unknown i early (sym (named_still i early) ∙ same ∙ get_or_push names name [] k last))
  apart i k (inr late) (inl early) at_i at_k same =
      let last : length names ≡ i = omega (arith, late, at_i, length-append names (name ∷ [])) in
      absurd (unknown k early (sym (named_still k early) ∙ sym same ∙ get_or_push names name [] i last))
  apart i k (inr late) (inr also) at_i at_k same = omega (arith, late, also, at_i, at_k, length-append names (name ∷ []))

  pub session_more : IsLedger lists longer_names h
  session_more = record {
    some = ledger.some;
    first = ledger.first;
    apart = λ i k at_i at_k same. apart i k (cases_lt i (length names)) (cases_lt k (length names)) at_i at_k same;
    owned = λ n some below. omega (arith, ledger.owned n some below, length-append names (name ∷ []));
    once = ledger.once;
    each = λ n some below. let w = ledger.each n some below in (
      w.0,
      record {
        numbered = numbered_there n w.0 some below w.1.numbered;
        own = w.1.own;
        writes = w.1.writes;
        read = λ x a there. let r = w.1.read x a there in (r.0, r.1, from_there x r.0 a r.2);
        reads = λ x v reads. let r = w.1.reads x v reads in (r.0, r.1, from_there x v r.0 r.2, r.3);
      },
    );
    all = λ other p t at ended.
        let w = ledger.all other p t at ended in (w.0, w.1, w.2, its_name w.0 w.1 w.2 ∙ w.3, w.4);
    written = ledger.written;
    written_once = ledger.written_once;
  }
