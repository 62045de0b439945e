-- The writers of keys when a transaction is taken in.
use Rattle.std.proofs.Common.{ℕ, ◌+◌, ◌≡◌, ◌<◌, ◌≤◌, ◌⊎◌, inl, inr, true, false, List, [], ◌∷◌, ◌++◌, length, get_or, set, slice_index, take, refl, sym, ap, subst, ◌∙◌, arith, length-append}
use Rattle.std.specs.List.{Contains}
use Rattle.std.proofs.Math.ListN.{get_or-append}
use Rattle.std.proofs.lemmas.Bool.{cases_lt, cases_eq, cases_Bool, false≢true}
use Rattle.std.proofs.lemmas.List.{get_or_default, get_or_push, get_or-set_same, get_or-set_other, get_or-take, length-set, length-take, take_more}
use Rattle.std.proofs.lemmas.List.Elements.{Contains-append_left, Contains-push, Contains-push_cases}
use Rattle.tcc_reads.specs.History.{History, count, owner, place}
use Rattle.tcc_graph.specs.Keys.{IsWriter, writes}
use Rattle.tcc_watch.specs.declared.at.At.{At}
use Rattle.tcc_watch.specs.declared.linking.SessionWriters.{SessionWriters}
use Rattle.tcc_watch.specs.Delivered.{IsDelivered}
use Rattle.tcc_watch.specs.private.Links.{AreWritersIn, AreWriters, GoNoFurther}
use Rattle.tcc_watch.specs.private.Writers.{AreKeyWriters, AreNoted, HasNumber, NotesWrite, WriterMap, lists_in}

module _ (h : History) (t : ℕ) (x : List ℕ) where
  -- who isn't a writer changes nothing
  pub not_written : (lists : List SessionWriters) → (IsWriter h t x → ⊥) → AreWriters h t x lists → AreWriters h (t + 1) x lists
  not_written lists none right = record {
    each = λ i d inside. let w = right.each i d inside in record {
      some = w.some;
      below = λ k within. omega (arith, w.below k within);
      owned = w.owned;
      written = w.written;
      rising = w.rising;
    };
    last = right.last;
    all = λ b some below writes. by b some below writes (cases_eq b t);
  }
    where
      by : (b : ℕ) → 0 < b → b < t + 1 → IsWriter h b x → (b ≡ t) ⊎ (b ≡ t → ⊥) → (i : ℕ) × (i < length lists) × ((d : SessionWriters) → Contains (get_or lists i d).numbers b)
      by b some below writes (inl same) = absurd (none (subst (λ (z : ℕ). IsWriter h z x) same writes))
      by b some below writes (inr apart) = right.all b some (omega (arith, below, apart)) writes

  module _ (delivered : IsDelivered h) (inside_h : t < count h) (some : 0 < t) (written : IsWriter h t x) (stand : At) (owned : owner h t ≡ stand.session)
      (placed : place h t ≡ stand.place) where
    abbrev session : ℕ
    session = stand.session

    is : (numbers : List ℕ) (P : ℕ → Type 0) (i : ℕ) → i < length (numbers ++ t ∷ []) → ((k : ℕ) → k < length numbers → P (slice_index numbers k)) → P t
        → P (slice_index (numbers ++ t ∷ []) i)
    is numbers P i inside old new = go (cases_lt i (length numbers))
      where
        go : (i < length numbers) ⊎ (length numbers ≤ i) → P (slice_index (numbers ++ t ∷ []) i)
        go (inl early) = subst P (sym (get_or-append numbers (t ∷ []) 0 i early)) (old i early)
        go (inr late) = subst P (sym (get_or_push numbers t 0 i (omega (arith, late, inside, length-append numbers (t ∷ []))))) new

    -- one number more in a list
    longer : (numbers : List ℕ) → AreWritersIn h t x session numbers → AreWritersIn h (t + 1) x session (numbers ++ t ∷ [])
    longer numbers right = record {
      some = λ i inside. is numbers (λ (n : ℕ). 0 < n) i inside (λ k within. right.some k within) some;
      below = λ i inside. is numbers (λ (n : ℕ). n < t + 1) i inside (λ k within. omega (arith, right.below k within)) (omega arith);
      owned = λ i inside. is numbers (λ (n : ℕ). owner h n ≡ session) i inside (λ k within. right.owned k within) owned;
      written = λ i inside. is numbers (λ (n : ℕ). IsWriter h n x) i inside (λ k within. right.written k within) written;
      rising = λ i k less inside. rise i k less inside (cases_lt k (length numbers));
    }
      where
        rise : (i k : ℕ) → i < k → k < length (numbers ++ t ∷ []) → (k < length numbers) ⊎ (length numbers ≤ k)
            → slice_index (numbers ++ t ∷ []) i < slice_index (numbers ++ t ∷ []) k
        rise i k less inside (inl early) =
            let one = get_or-append numbers (t ∷ []) 0 i (omega (arith, less, early)) in
            let two = get_or-append numbers (t ∷ []) 0 k early in
            omega (arith, one, two, right.rising i k less early)
        rise i k less inside (inr late) =
            let at : length numbers ≡ k = omega (arith, late, inside, length-append numbers (t ∷ [])) in
            let early : i < length numbers = omega (arith, less, at) in
            let one = get_or-append numbers (t ∷ []) 0 i early in
            let two = get_or_push numbers t 0 k at in
            omega (arith, one, two, right.below i early)

    -- none of them is further than the new one
    furthest : (numbers : List ℕ) → AreWritersIn h t x session numbers → GoNoFurther h (numbers ++ t ∷ []) stand.place
    furthest numbers right i inside =
        is numbers (λ (n : ℕ). place h n ≤ stand.place) i inside
        (λ k within.
        let less = delivered.sessions (slice_index numbers k) t (right.some k within) (right.below k within) inside_h (right.owned k within ∙ sym owned) in
        omega (arith, less, placed)) (omega (arith, placed))

    wider : (session : ℕ) (numbers : List ℕ) → AreWritersIn h t x session numbers → AreWritersIn h (t + 1) x session numbers
    wider session numbers right = record {
      some = right.some;
      below = λ k within. omega (arith, right.below k within);
      owned = right.owned;
      written = right.written;
      rising = right.rising;
    }

    alone : AreWritersIn h t x session []
    alone = record {
      some = λ i inside. absurd (omega (arith, inside));
      below = λ i inside. absurd (omega (arith, inside));
      owned = λ i inside. absurd (omega (arith, inside));
      written = λ i inside. absurd (omega (arith, inside));
      rising = λ i k less inside. absurd (omega (arith, inside));
    }

    abbrev IsListed : List SessionWriters → ℕ → Type 0
    IsListed lists b = (i : ℕ) × (i < length lists) × ((d : SessionWriters) → Contains (get_or lists i d).numbers b)

    -- its session's list, longer by it, and a list of it alone
    abbrev with_more : SessionWriters → SessionWriters
    with_more w = record { session = w.session; numbers = w.numbers ++ t ∷ []; last = stand.place }

    abbrev one : SessionWriters
    one = record { session = session; numbers = t ∷ []; last = stand.place }

    pub writer_more : (old new : List SessionWriters) → HasNumber old new stand t → AreWriters h t x old → AreWriters h (t + 1) x new
    writer_more old new (inl (at, w, inside, is, of_session, new_is)) right = subst (λ (z : List SessionWriters). AreWriters h (t + 1) x z) (sym new_is) (record {
      each = λ i d within. each i d within (cases_eq i at);
      last = λ i d within. last i d within (cases_eq i at);
      all = λ b more below writes. all b more below writes (cases_eq b t);
    })
      where
        mine : AreWritersIn h t x session w.numbers
        mine =
            subst (λ (z : ℕ). AreWritersIn h t x z w.numbers) of_session
            (subst (λ (z : SessionWriters). AreWritersIn h t x z.session z.numbers) is (right.each at w inside))

        each : (i : ℕ) (d : SessionWriters) → i < length (set old at (with_more w)) → (i ≡ at) ⊎ (i ≡ at → ⊥)
            → AreWritersIn h (t + 1) x (get_or (set old at (with_more w)) i d).session (get_or (set old at (with_more w)) i d).numbers
        each i d within (inl same) =
            let here : get_or (set old at (with_more w)) i d ≡ with_more w = ap (λ k. get_or (set old at (with_more w)) k d) same ∙ get_or-set_same old at (with_more w) d inside in
            subst (λ (z : SessionWriters). AreWritersIn h (t + 1) x z.session z.numbers) (sym here)
            (subst (λ (n : ℕ). AreWritersIn h (t + 1) x n (w.numbers ++ t ∷ [])) (sym of_session) (longer w.numbers mine))
        each i d within (inr apart) =
            let there : get_or (set old at (with_more w)) i d ≡ get_or old i d = get_or-set_other old at i (with_more w) d apart in
            let before : i < length old = simp length-set at within in
            subst (λ (z : SessionWriters). AreWritersIn h (t + 1) x z.session z.numbers) (sym there)
            (wider (get_or old i d).session (get_or old i d).numbers (right.each i d before))

        last : (i : ℕ) (d : SessionWriters) → i < length (set old at (with_more w)) → (i ≡ at) ⊎ (i ≡ at → ⊥)
            → GoNoFurther h (get_or (set old at (with_more w)) i d).numbers (get_or (set old at (with_more w)) i d).last
        last i d within (inl same) =
            let here : get_or (set old at (with_more w)) i d ≡ with_more w = ap (λ k. get_or (set old at (with_more w)) k d) same ∙ get_or-set_same old at (with_more w) d inside in
            subst (λ (z : SessionWriters). GoNoFurther h z.numbers z.last) (sym here) (furthest w.numbers mine)
        last i d within (inr apart) =
            subst (λ (z : SessionWriters). GoNoFurther h z.numbers z.last) (sym (get_or-set_other old at i (with_more w) d apart))
            (right.last i d (simp length-set at within))

        still : (b : ℕ) → (l : IsListed old b) → (l.0 ≡ at) ⊎ (l.0 ≡ at → ⊥) → IsListed (set old at (with_more w)) b
        still b (i, within, holds) (inl same) =
            let old_here : get_or old at w ≡ w = is in (
              at,
              simp length-set inside,
              λ d. subst (λ (z : SessionWriters). Contains z.numbers b) (sym (get_or-set_same old at (with_more w) d inside))
                  (Contains-append_left w.numbers (t ∷ []) b
                  (subst (λ (z : SessionWriters). Contains z.numbers b) (ap (λ k. get_or old k w) same ∙ old_here) (holds w))),
            )
        still b (i, within, holds) (inr apart) =
            (i, simp length-set within, λ d. subst (λ (z : SessionWriters). Contains z.numbers b) (sym (get_or-set_other old at i (with_more w) d apart)) (holds d))

        all : (b : ℕ) → 0 < b → b < t + 1 → IsWriter h b x → (b ≡ t) ⊎ (b ≡ t → ⊥) → IsListed (set old at (with_more w)) b
        all b positive below writes (inl same) = (
          at,
          simp length-set inside,
          λ d. subst (λ (z : SessionWriters). Contains z.numbers b) (sym (get_or-set_same old at (with_more w) d inside))
              (subst (λ (n : ℕ). Contains (w.numbers ++ t ∷ []) n) (sym same) (Contains-push w.numbers t)),
        )
        all b positive below writes (inr apart) =
            let l = right.all b positive (omega (arith, below, apart)) writes in still b l (cases_eq l.0 at)
    writer_more old new (inr new_is) right = subst (λ (z : List SessionWriters). AreWriters h (t + 1) x z) (sym new_is) (record {
      each = λ i d within. each i d within (cases_lt i (length old));
      last = λ i d within. last i d within (cases_lt i (length old));
      all = λ b more below writes. all b more below writes (cases_eq b t);
    })
      where
        each : (i : ℕ) (d : SessionWriters) → i < length (old ++ one ∷ []) → (i < length old) ⊎ (length old ≤ i)
            → AreWritersIn h (t + 1) x (get_or (old ++ one ∷ []) i d).session (get_or (old ++ one ∷ []) i d).numbers
        each i d within (inl early) =
            subst (λ (z : SessionWriters). AreWritersIn h (t + 1) x z.session z.numbers) (sym (get_or-append old (one ∷ []) d i early))
            (wider (get_or old i d).session (get_or old i d).numbers (right.each i d early))
        each i d within (inr late) =
            subst (λ (z : SessionWriters). AreWritersIn h (t + 1) x z.session z.numbers)
            (sym (get_or_push old one d i (omega (arith, late, within, length-append old (one ∷ []))))) (longer [] alone)

        last : (i : ℕ) (d : SessionWriters) → i < length (old ++ one ∷ []) → (i < length old) ⊎ (length old ≤ i)
            → GoNoFurther h (get_or (old ++ one ∷ []) i d).numbers (get_or (old ++ one ∷ []) i d).last
        last i d within (inl early) =
            subst (λ (z : SessionWriters). GoNoFurther h z.numbers z.last) (sym (get_or-append old (one ∷ []) d i early)) (right.last i d early)
        last i d within (inr late) =
            subst (λ (z : SessionWriters). GoNoFurther h z.numbers z.last)
            (sym (get_or_push old one d i (omega (arith, late, within, length-append old (one ∷ []))))) (furthest [] alone)

        all : (b : ℕ) → 0 < b → b < t + 1 → IsWriter h b x → (b ≡ t) ⊎ (b ≡ t → ⊥) → IsListed (old ++ one ∷ []) b
        all b positive below writes (inl same) = (
          length old,
          omega (arith, length-append old (one ∷ [])),
          λ d.
              subst (λ (z : SessionWriters). Contains z.numbers b) (sym (get_or_push old one d (length old) refl)) (0, omega arith, sym same),
        )
        all b positive below writes (inr apart) =
            let l = right.all b positive (omega (arith, below, apart)) writes in (
              l.0,
              omega (arith, l.1, length-append old (one ∷ [])),
              λ d.
                  subst (λ (z : SessionWriters). Contains z.numbers b) (sym (get_or-append old (one ∷ []) d l.0 l.1)) (l.2 d),
            )

-- ---- the keys of a transaction, one after the other

-- the first i of them contain what is at one of their indices
taken : (keys : List (List ℕ)) (i : ℕ) (x : List ℕ) → Contains (take i keys) x → (j : ℕ) × (j < i) × (j < length keys) × (get_or keys j x ≡ x)
taken keys i x (j, inside, is) =
    let low : j < i = omega (arith, inside, length-take i keys) in
    (j, low, omega (arith, inside, length-take i keys), sym (get_or-take i keys j x low) ∙ is)

module _ (h : History) (old new : WriterMap) (stand : At) (t : ℕ) (keys : List (List ℕ)) (key : List ℕ) (i : ℕ) (inside : i < length keys) (is : key ≡ get_or keys i key)
    (delivered : IsDelivered h) (below : t < count h) (some : 0 < t) (owned : owner h t ≡ stand.session) (placed : place h t ≡ stand.place) (written : (x : List ℕ) → Contains keys x → IsWriter h t x)
    (once : (i k : ℕ) → i < k → k < length keys → get_or keys i [] ≡ get_or keys k [] → ⊥) (before : AreNoted h old t (take i keys))
    (now : NotesWrite old new stand t key) where
  split : take (i + 1) keys ≡ take i keys ++ key ∷ []
  split = take_more keys i key inside ∙ ap (λ k. take i keys ++ k ∷ []) (sym is)

  -- it isn't among those before it
  new_key : Contains (take i keys) key → ⊥
  new_key there =
      let w = taken keys i key there in
      once w.0 i w.1 inside (get_or_default keys w.0 [] key w.2 ∙ w.3 ∙ is ∙ get_or_default keys i key [] inside)

  noted : (x : List ℕ) → Contains (take i keys) x ⊎ (key ≡ x) → AreWriters h (t + 1) x (lists_in new x)
  noted x (inl there) =
      let apart : x ≡ key → ⊥ = λ same. new_key (subst (λ (z : List ℕ). Contains (take i keys) z) same there) in
      subst (λ (z : List SessionWriters). AreWriters h (t + 1) x z) (sym (now.others x apart)) (before.noted x there)
  noted x (inr same) =
      let writes : IsWriter h t key = written key (i, inside, sym is) in
      subst (λ (z : List ℕ). AreWriters h (t + 1) z (lists_in new z)) same
      (writer_more h t key delivered below some writes stand owned placed (lists_in old key) (lists_in new key) now.here (before.left key new_key))

  left : (x : List ℕ) → (Contains (take i keys ++ key ∷ []) x → ⊥) → AreWriters h t x (lists_in new x)
  left x none =
      let apart : x ≡ key → ⊥ = λ same. none (subst (λ (z : List ℕ). Contains (take i keys ++ key ∷ []) z) (sym same) (Contains-push (take i keys) key)) in
      subst (λ (z : List SessionWriters). AreWriters h t x z) (sym (now.others x apart))
      (before.left x (λ there. none (Contains-append_left (take i keys) (key ∷ []) x there)))

  pub noted_more : AreNoted h new t (take (i + 1) keys)
  noted_more =
      subst (λ (z : List (List ℕ)). AreNoted h new t z) (sym split)
      (record { noted = λ x there. noted x (Contains-push_cases (take i keys) key x there); left = left })

-- where all of its keys are noted, the lists have it
pub all_noted : (h : History) (writers : WriterMap) (t : ℕ) (keys : List (List ℕ)) → t < count h → ((x : List ℕ) → Contains keys x → IsWriter h t x)
    → ((x : List ℕ) → IsWriter h t x → Contains keys x) → AreNoted h writers t keys → AreKeyWriters h (t + 1) writers
all_noted h writers t keys inside written all noted x = go (cases_Bool (writes h t x))
  where
    go : (writes h t x ≡ true) ⊎ (writes h t x ≡ false) → AreWriters h (t + 1) x (lists_in writers x)
    go (inl is) = noted.noted x (all x (inside, is))
    go (inr not) =
        let none : IsWriter h t x → ⊥ = λ w. false≢true (sym not ∙ w.1) in
        not_written h t x (lists_in writers x) none (noted.left x (λ there. none (written x there)))
