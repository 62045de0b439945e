-- Lists that are picked item by item. If no list extends another, and tied items are equal, the picked list is the first.
use Rattle.std.proofs.Common.{◌≡◌, ◌≢◌, List, [], ◌∷◌, ◌++◌, refl, sym, ap, append_assoc, append-nil, subst}
use Rattle.std.specs.Cmp.{IsTotalOrder}
use Rattle.std.specs.Cmp.Lexicographic.{slice_cmp}
use Rattle.std.specs.declared.cmp.Ordering.{Ordering}
use Rattle.std.specs.declared.cmp.Ordering.TheVariants.{Less, Equal, Greater}
use Rattle.std.proofs.lemmas.Cmp.{tied_itself}

module _ {X : Type 0} (cmp : X → X → Ordering) (S : List X → Type 0) where
  -- the item comes after none that could be picked in its place
  abbrev pub IsPick : List X → X → Type 0
  IsPick done x = (y : X) (others : List X) → S (done ++ y ∷ others) → cmp x y ≢ Greater

  -- after those done, each item of the list was picked in turn
  abbrev pub Picks : List X → List X → Type 0
  Picks done [] = Unit {0}
  Picks done (x ∷ xs) = IsPick done x × Picks (done ++ x ∷ []) xs

  pub Picks-push : (done xs : List X) (y : X) → Picks done xs → IsPick (done ++ xs) y → Picks done (xs ++ y ∷ [])
  Picks-push done [] y p h = (subst (λ (ds : List X). IsPick ds y) (append-nil done) h, tt)
  Picks-push done (x ∷ xs) y p h = (p.0, Picks-push (done ++ x ∷ []) xs y p.1 (rw append_assoc h))

  pub Picks-at : (done before : List X) (x : X) (after : List X) → Picks done (before ++ x ∷ after) → IsPick (done ++ before) x
  Picks-at done [] x after p = subst (λ (ds : List X). IsPick ds x) (sym (append-nil done)) p.0
  Picks-at done (b ∷ before) x after p = rw (← append_assoc done (b ∷ []) before) (Picks-at (done ++ b ∷ []) before x after p.1)

  -- each item of the list is one that can be picked there
  pub Picks-from : (xs done : List X) → ((before : List X) (x : X) (after : List X) → xs ≡ before ++ x ∷ after → IsPick (done ++ before) x) → Picks done xs
  Picks-from [] done each = tt
  Picks-from (x ∷ xs) done each = (
    subst (λ (ds : List X). IsPick ds x) (append-nil done) (each [] x xs refl),
    Picks-from xs (done ++ x ∷ []) (λ before y after e. rw (append_assoc done (x ∷ []) before) (each (x ∷ before) y after (ap (λ zs. x ∷ zs) e))),
  )

  -- the first list is picked
  pub Picks-first : IsTotalOrder cmp → (xs done : List X) → ((others : List X) → S (done ++ others) → slice_cmp cmp xs others ≢ Greater) → Picks done xs
  Picks-first total [] done first = tt
  Picks-first total (x ∷ xs) done first = (
    λ y others s above. first (y ∷ others) s (rw above refl),
    Picks-first total xs (done ++ x ∷ []) (λ others s above.
        let tie : cmp x x ≡ Equal = tied_itself total x in
        first (x ∷ others) (rw append_assoc at s) (rw tie above)),
  )

  module _ (ends : (done : List X) (x : X) (rest : List X) → S (done ++ x ∷ rest) → S done → ⊥)
      (same : (done : List X) (x y : X) (rest others : List X) → S (done ++ x ∷ rest) → S (done ++ y ∷ others) → cmp x y ≡ Equal → x ≡ y) where
    -- the picked list is the first
    pub first_picked : (xs ys done : List X) → Picks done xs → S (done ++ xs) → S (done ++ ys) → slice_cmp cmp xs ys ≢ Greater
    first_picked [] [] done p s t = λ e. cc
    first_picked [] (y ∷ ys) done p s t = λ e. cc
    first_picked (x ∷ xs) [] done p s t = absurd (ends done x xs s (rw (append-nil done) at t))
    first_picked (x ∷ xs) (y ∷ ys) done p s t =
        go (cmp x y) refl (λ e. first_picked xs ys (done ++ x ∷ []) p.1 (rw append_assoc s) (rw append_assoc (subst (λ (z : X). S (done ++ z ∷ ys)) (sym e) t)))
      where
        go : (o : Ordering) → cmp x y ≡ o → (x ≡ y → slice_cmp cmp xs ys ≢ Greater) → slice_cmp cmp (x ∷ xs) (y ∷ ys) ≢ Greater
        go Less e rest = rw e (λ g. cc)
        go Equal e rest = rw e (rest (same done x y xs ys s t e))
        go Greater e rest = absurd (p.0 y ys t e)

    -- there is one picked list
    pub one_picked : IsTotalOrder cmp → (xs ys done : List X) → Picks done xs → Picks done ys → S (done ++ xs) → S (done ++ ys) → xs ≡ ys
    one_picked total [] [] done p q s t = refl
    one_picked total [] (y ∷ ys) done p q s t = absurd (ends done y ys t (rw (append-nil done) at s))
    one_picked total (x ∷ xs) [] done p q s t = absurd (ends done x xs s (rw (append-nil done) at t))
    one_picked total (x ∷ xs) (y ∷ ys) done p q s t =
        go (cmp x y) refl (λ e. one_picked total xs ys (done ++ x ∷ []) p.1 (subst (λ (z : X). Picks (done ++ z ∷ []) ys) (sym e) q.1) (rw append_assoc s)
        (rw append_assoc (subst (λ (z : X). S (done ++ z ∷ ys)) (sym e) t)))
      where
        join : x ≡ y → xs ≡ ys → (x ∷ xs) ≡ (y ∷ ys)
        join e f = cc

        go : (o : Ordering) → cmp x y ≡ o → (x ≡ y → xs ≡ ys) → (x ∷ xs) ≡ (y ∷ ys)
        go Less e rest = absurd (q.0 x xs s (rw (total.antisymm y x, e) refl))
        go Equal e rest = let is = same done x y xs ys s t e in join is (rest is)
        go Greater e rest = absurd (p.0 y ys t e)
