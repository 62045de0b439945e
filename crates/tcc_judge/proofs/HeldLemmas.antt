-- Rows that are each held for one key, seen as one list of rows.
use Rattle.std.proofs.Common.{◌≡◌, ◌≢◌, ◌<◌, ◌≤◌, ◌⊎◌, inl, inr, ℕ, zero, suc, List, [], ◌∷◌, ◌++◌, map, length, length-append, get_or, set, replicate, slice_index, take, refl, sym, ap, ◌∙◌, arith}
use Rattle.std.specs.Prelude.{min}
use Rattle.std.proofs.lemmas.Bool.{cases_eq}
use Rattle.std.proofs.lemmas.List.{get_or-set_same, get_or-set_other, length-set, get_or_append_left, get_or-replicate}
use Rattle.std.proofs.lemmas.List.Elements.{All-weaker}
use Rattle.tcc_graph.specs.Tables.{row_of}
use Rattle.tcc_clocks.proofs.NamedRows.{named_row, own_inside}
use Rattle.tcc_clocks.specs.declared.latest.TheConstants.{WIDE}
use Rattle.tcc_judge.specs.declared.least.TheConstants.{NONE}
use Rattle.tcc_judge.specs.private.NextWriters.{AreHeldOnce, lowered}

-- no key has a row of its own
pub all_alike : (rows : List (List ℕ)) (n : ℕ) → row_of rows 0 ≡ replicate WIDE NONE → map (row_of rows) (replicate n 0) ≡ replicate n (replicate WIDE NONE)
all_alike rows zero e = refl
all_alike rows (suc n) e = rw (all_alike rows n e, e) refl

pub none_held : (rows : List (List ℕ)) (n : ℕ) → 0 < length rows → row_of rows 0 ≡ replicate WIDE NONE → AreHeldOnce rows (replicate n 0)
none_held rows n some none = record {
  some = some;
  none = none;
  inside = λ k d l. inside k d n l;
  once = λ j k l m e above. absurd (zeros j n above);
}
  where
    inside : (k d m : ℕ) → k < length {A = ℕ} (replicate m 0) → get_or (replicate m 0) k d < length rows
    inside k d zero l = absurd (omega arith)
    inside zero d (suc m) l = some
    inside (suc k) d (suc m) l = inside k d m (omega arith)

    zeros : (j m : ℕ) → 0 < get_or (replicate m 0) j 0 → ⊥
    zeros j zero l = omega arith
    zeros zero (suc m) l = omega arith
    zeros (suc j) (suc m) l = zeros j m l

pub first_kept : (rows : List (List ℕ)) → 0 < length rows → row_of (take 1 rows) 0 ≡ row_of rows 0
first_kept [] some = absurd (omega arith)
first_kept (row ∷ rows) some = refl

-- a row that belongs to none of these keys
pub other_rows : (rows : List (List ℕ)) (row : List ℕ) (held : ℕ) (which : List ℕ) → ((j : ℕ) → j < length which → get_or which j 0 ≢ held)
    → map (row_of (set rows held row)) which ≡ map (row_of rows) which
other_rows rows row held [] apart = refl
other_rows rows row held (n ∷ which) apart =
    rw (get_or-set_other rows held n row [] (apart 0 (omega arith)), other_rows rows row held which (λ j l. apart (suc j) (omega arith))) refl

-- the row of one key
pub changed_row : (rows : List (List ℕ)) (row : List ℕ) (held : ℕ) (which : List ℕ) (k : ℕ) → k < length which → get_or which k 0 ≡ held → held < length rows
    → ((j : ℕ) → j < length which → j ≢ k → get_or which j 0 ≢ held) → map (row_of (set rows held row)) which ≡ set (map (row_of rows) which) k row
changed_row rows row held [] k l here inside apart = absurd (omega arith)
changed_row rows row held (n ∷ which) zero l here inside apart =
    rw (here, get_or-set_same rows held row [] inside, other_rows rows row held which (λ j m. apart (suc j) (omega arith) (omega arith))) refl
changed_row rows row held (n ∷ which) (suc k) l here inside apart =
    rw (
      get_or-set_other rows held n row [] (apart 0 (omega arith) (omega arith)),
      changed_row rows row held which k (omega arith) here inside (λ j m other. apart (suc j) (omega arith) (λ e. other (omega arith))),
    ) refl

module _ (rows : List (List ℕ)) (which : List ℕ) (w : AreHeldOnce rows which) (k : ℕ) (inside : k < length which) where
  key_row : row_of (map (row_of rows) which) k ≡ row_of rows (get_or which k 0)
  key_row = named_row rows which k inside

  -- a key that has a row of its own
  module _ (held : ℕ) (here : get_or which k 0 ≡ held) (own : 0 < held) where
    pub held_inside : held < length rows
    held_inside = omega (arith, w.inside k 0 inside)

    pub own_changed : (row : List ℕ) → map (row_of (set rows held row)) which ≡ set (map (row_of rows) which) k row
    own_changed row =
        changed_row rows row held which k inside here held_inside
        (λ j l other e. other (w.once j k l inside (omega arith) (omega arith)))

    pub own_still : (row : List ℕ) → AreHeldOnce (set rows held row) which
    own_still row = record {
      some = omega (arith, w.some, length-set rows held row);
      none = get_or-set_other rows held 0 row [] (omega arith) ∙ w.none;
      inside = All-weaker (λ n. n < length rows) (λ n. n < length (set rows held row)) (λ n l. omega (arith, length-set rows held row)) which w.inside;
      once = w.once;
    }

    pub own_row_is : row_of rows held ≡ row_of (map (row_of rows) which) k
    own_row_is = sym (key_row ∙ ap (row_of rows) here)

  -- a key that had none
  module _ (free : get_or which k 0 ≡ 0) where
    pub fresh_is : row_of (map (row_of rows) which) k ≡ replicate WIDE NONE
    fresh_is = key_row ∙ (ap (row_of rows) free ∙ w.none)

    pub fresh_lowered : (session number : ℕ) → session < WIDE → number ≤ NONE
        → set (replicate WIDE NONE) session number ≡ lowered (row_of (map (row_of rows) which) k) session number
    fresh_lowered session number l fits =
        let at : slice_index (replicate WIDE NONE) session ≡ NONE = get_or-replicate WIDE session NONE 0 l in
        let least : min number (slice_index (replicate WIDE NONE) session) ≡ number = omega arith in
        rw (fresh_is, least) refl

    pub fresh_held : (row : List ℕ) → AreHeldOnce (rows ++ row ∷ []) (set which k (length rows))
    fresh_held row = record {
      some = omega (arith, length-append rows (row ∷ []));
      none = get_or_append_left rows (row ∷ []) [] 0 w.some ∙ w.none;
      inside = own_inside rows row which k w.inside;
      once = λ i j l m e some. once i j (omega (arith, l, length-set which k (length rows))) (omega (arith, m, length-set which k (length rows))) e some (cases_eq i k) (cases_eq j k);
    }
      where
        mine : get_or (set which k (length rows)) k 0 ≡ length rows
        mine = get_or-set_same which k (length rows) 0 inside

        other : (i : ℕ) → i ≢ k → get_or (set which k (length rows)) i 0 ≡ get_or which i 0
        other i apart = get_or-set_other which k i (length rows) 0 apart

        once : (i j : ℕ) → i < length which → j < length which → get_or (set which k (length rows)) i 0 ≡ get_or (set which k (length rows)) j 0
            → 0 < get_or (set which k (length rows)) i 0 → (i ≡ k) ⊎ (i ≢ k) → (j ≡ k) ⊎ (j ≢ k) → i ≡ j
        once i j l m e some (inl one) (inl two) = one ∙ sym two
        once i j l m e some (inl one) (inr two) =
            let at : get_or (set which k (length rows)) i 0 ≡ length rows = ap (λ z. get_or (set which k (length rows)) z 0) one ∙ mine in
            absurd (omega (arith, at, e, other j two, w.inside j 0 m))
        once i j l m e some (inr one) (inl two) =
            let at : get_or (set which k (length rows)) j 0 ≡ length rows = ap (λ z. get_or (set which k (length rows)) z 0) two ∙ mine in
            absurd (omega (arith, at, e, other i one, w.inside i 0 l))
        once i j l m e some (inr one) (inr two) = w.once i j l m (sym (other i one) ∙ (e ∙ other j two)) (omega (arith, other i one, some))
