-- The fewest steps to readers, which one level after another lowers.
use Rattle.std.proofs.Common.{◌≡◌, ◌≢◌, ◌<◌, ◌≤◌, ◌+◌, ◌||◌, ◌⊎◌, ℕ, inl, inr, Bool, true, false, List, [], length, get_or, set, take, min, slice_index}
use Rattle.std.proofs.Common.{refl, sym, ◌∙◌, arith, subst}
use Rattle.std.specs.Prelude.{All, Contains}
use Rattle.std.proofs.lemmas.Bool.{cases_eq, cases_lt}
use Rattle.std.proofs.lemmas.List.{get_or-set_same, get_or-set_other, length-set}
use Rattle.tcc_bits.specs.Bits.{is_marked, IsFresh}
use Rattle.tcc_bits.proofs.Lists.{nothing_in, one_of_taken, still_taken, last_taken}
use Rattle.tcc_near.specs.declared.walk_lengths.TheConstants.{NONE}
use Rattle.tcc_derive.specs.private.Buckets.{bucket}
use Rattle.tcc_derive.specs.private.Lowering.{Lowers}
use Rattle.tcc_derive.specs.private.Sources.{AreSources, IsCovered, LowersEach, LowersUpTo}
use Rattle.tcc_derive.specs.declared.read.Read.{Read}

-- ---- some of them
pub each_none : (IsOne : ℕ → Type 0) (distance : ℕ) (old : List ℕ) → ((a : ℕ) → IsOne a → ⊥) → LowersEach IsOne distance old old
each_none IsOne distance old none = record { long = refl; kept = λ a. omega arith; lowered = λ a h. absurd (none a h); from = λ a. inl refl }

pub each_more : (A B : ℕ → Type 0) (distance p : ℕ) (old mid new : List ℕ) → LowersEach A distance old mid → p < length mid
    → new ≡ set mid p (min (get_or mid p 0) distance) → ((a : ℕ) → B a → A a ⊎ (p ≡ a)) → ((a : ℕ) → A a → B a) → B p → LowersEach B distance old new
each_more A B distance p old mid new before inside is parts wider here = record {
  long = rw is (length-set mid p (min (get_or mid p 0) distance) ∙ before.long);
  kept = λ a. less a (cases_eq a p);
  lowered = λ a h. low a (cases_eq a p) (parts a h);
  from = λ a. came a (cases_eq a p);
}
  where
    at_p : slice_index new p ≡ min (slice_index mid p) distance
    at_p = rw is (get_or-set_same mid p (min (get_or mid p 0) distance) 0 inside)

    elsewhere : (a : ℕ) → a ≢ p → slice_index new a ≡ slice_index mid a
    elsewhere a far = rw is (get_or-set_other mid p a (min (get_or mid p 0) distance) 0 far)

    less : (a : ℕ) → (a ≡ p) ⊎ (a ≢ p) → slice_index new a ≤ slice_index old a
    less a (inl same) = rw same (let w = before.kept p in let e = at_p in omega arith)
    less a (inr far) = let w = before.kept a in let e = elsewhere a far in omega arith

    low : (a : ℕ) → (a ≡ p) ⊎ (a ≢ p) → A a ⊎ (p ≡ a) → slice_index new a ≤ distance
    low a (inl same) _ = rw same (let e = at_p in omega arith)
    low a (inr far) (inl was) = let w = before.lowered a was in let e = elsewhere a far in omega arith
    low a (inr far) (inr same) = absurd (far (sym same))

    came : (a : ℕ) → (a ≡ p) ⊎ (a ≢ p) → (slice_index new a ≡ slice_index old a) ⊎ (B a × (slice_index new a ≡ distance))
    came a (inr far) = go (before.from a)
      where
        go : (slice_index mid a ≡ slice_index old a) ⊎ (A a × (slice_index mid a ≡ distance))
            → (slice_index new a ≡ slice_index old a) ⊎ (B a × (slice_index new a ≡ distance))
        go (inl e) = inl (elsewhere a far ∙ e)
        go (inr w) = inr (wider a w.0, elsewhere a far ∙ w.1)
    came a (inl same) = rw same (go (cases_lt distance (slice_index mid p)) (before.from p))
      where
        go : (distance < slice_index mid p) ⊎ (slice_index mid p ≤ distance) → (slice_index mid p ≡ slice_index old p) ⊎ (A p × (slice_index mid p ≡ distance))
            → (slice_index new p ≡ slice_index old p) ⊎ (B p × (slice_index new p ≡ distance))
        go (inl nearer) _ = inr (here, let e = at_p in omega arith)
        go (inr further) (inl e) = inl (let w = at_p in omega arith)
        go (inr further) (inr w) = inr (here, let e = at_p in let v = w.1 in omega arith)

-- no number, so none that is lowered
pub each_first : (distance : ℕ) (old : List ℕ) → LowersEach (Contains []) distance old old
each_first distance old = each_none (Contains []) distance old nothing_in

-- the first numbers of a list were lowered, and then the next is
pub each_next : (numbers : List ℕ) (n distance : ℕ) (old mid new : List ℕ) → n < length numbers → get_or numbers n 0 < length mid
    → new ≡ set mid (get_or numbers n 0) (min (get_or mid (get_or numbers n 0) 0) distance)
    → LowersEach (Contains (take n numbers)) distance old mid → LowersEach (Contains (take (n + 1) numbers)) distance old new
each_next numbers n distance old mid new within inside is before =
    each_more (Contains (take n numbers)) (Contains (take (n + 1) numbers)) distance (get_or numbers n 0) old mid new before inside is
    (one_of_taken numbers n within) (still_taken numbers n within) (last_taken numbers n within)

-- ---- a reader
module _ (seen row fresh old new : List ℕ) (distance : ℕ) (is : IsFresh seen row fresh) (covered : IsCovered seen old distance)
    (lowers : LowersEach (Contains fresh) distance old new) where
  pub reader_lowered : LowersEach (λ a. is_marked row a ≡ true) distance old new
  reader_lowered = record { long = lowers.long; kept = lowers.kept; lowered = λ a mark. go a mark (is_marked seen a) refl; from = λ a. came a (lowers.from a) }
    where
      go : (a : ℕ) → is_marked row a ≡ true → (s : Bool) → is_marked seen a ≡ s → slice_index new a ≤ distance
      go a mark true s = let w = lowers.kept a in let v = covered a s in omega arith
      go a mark false s = lowers.lowered a ((is a).1 (mark, s))

      came : (a : ℕ) → (slice_index new a ≡ slice_index old a) ⊎ (Contains fresh a × (slice_index new a ≡ distance))
          → (slice_index new a ≡ slice_index old a) ⊎ ((is_marked row a ≡ true) × (slice_index new a ≡ distance))
      came a (inl e) = inl e
      came a (inr w) = inr (((is a).0 w.0).0, w.1)

  pub reader_covered : (now : List ℕ) → ((a : ℕ) → is_marked now a ≡ (is_marked seen a || is_marked row a)) → IsCovered now new distance
  reader_covered now joined a mark = go (is_marked seen a) refl (sym (joined a) ∙ mark)
    where
      go : (s : Bool) → is_marked seen a ≡ s → (is_marked seen a || is_marked row a) ≡ true → slice_index new a ≤ distance
      go true s e = let w = lowers.kept a in let v = covered a s in omega arith
      go false s e = reader_lowered.lowered a (subst (λ (b : Bool). (b || is_marked row a) ≡ true) s e)

pub covered_later : (seen nearest : List ℕ) (n m : ℕ) → n ≤ m → IsCovered seen nearest n → IsCovered seen nearest m
covered_later seen nearest n m more is a mark = let w = is a mark in omega arith

-- ---- levels
module _ (reads : List Read) (steps : List ℕ) where
  pub upto_none : (old : List ℕ) → LowersUpTo reads steps 0 0 old old
  upto_none old = record {
    long = refl;
    kept = λ a. omega arith;
    nearer = λ r there less. absurd (omega (arith, less));
    here = λ r there at less. absurd (omega (arith, less));
    from = λ a. inl refl;
  }

  -- a reader that isn't at this distance
  pub upto_skip : (distance k : ℕ) (old new : List ℕ) → slice_index steps k ≢ distance → LowersUpTo reads steps distance k old new
      → LowersUpTo reads steps distance (k + 1) old new
  upto_skip distance k old new other is = record {
    long = is.long;
    kept = is.kept;
    nearer = is.nearer;
    here = λ r there at less. go r there at less (cases_eq r.reader k);
    from = is.from;
  }
    where
      go : (r : Read) → Contains reads r → slice_index steps r.reader ≡ distance → r.reader < k + 1 → (r.reader ≡ k) ⊎ (r.reader ≢ k)
          → slice_index new r.source ≤ slice_index steps r.reader
      go r there at less (inl same) = absurd (other (subst (λ (c : ℕ). slice_index steps c ≡ distance) same at))
      go r there at less (inr far) = is.here r there at (omega (arith, less, far))

  -- a reader at this distance
  pub upto_row : (n : ℕ) (rows : List (List ℕ)) (distance k : ℕ) (old mid new : List ℕ) → AreSources n reads rows → k < n → slice_index steps k ≡ distance
      → LowersUpTo reads steps distance k old mid → LowersEach (λ a. is_marked (bucket rows k) a ≡ true) distance mid new
      → LowersUpTo reads steps distance (k + 1) old new
  upto_row n rows distance k old mid new sources inside at is lowers = record {
    long = lowers.long ∙ is.long;
    kept = λ a. let w = lowers.kept a in let v = is.kept a in omega arith;
    nearer = λ r there less. let w = lowers.kept r.source in let v = is.nearer r there less in omega arith;
    here = λ r there to less. go r there to less (cases_eq r.reader k);
    from = λ a. came a (lowers.from a);
  }
    where
      go : (r : Read) → Contains reads r → slice_index steps r.reader ≡ distance → r.reader < k + 1 → (r.reader ≡ k) ⊎ (r.reader ≢ k)
          → slice_index new r.source ≤ slice_index steps r.reader
      go r there to less (inl same) =
          let mark : is_marked (bucket rows k) r.source ≡ true =
          (sources.each k r.source inside).1 (subst (λ (c : ℕ). Contains reads (record { source = r.source; reader = c })) same there) in
          let w = lowers.lowered r.source mark in
          omega (arith, w, to)
      go r there to less (inr far) =
          let w = lowers.kept r.source in
          let v = is.here r there to (omega (arith, less, far)) in
          omega arith

      came : (a : ℕ) → (slice_index new a ≡ slice_index mid a) ⊎ ((is_marked (bucket rows k) a ≡ true) × (slice_index new a ≡ distance))
          → (slice_index new a ≡ slice_index old a) ⊎ ((r : Read) × Contains reads r × (r.source ≡ a) × (slice_index new a ≡ slice_index steps r.reader))
      came a (inr w) = inr (record { source = a; reader = k }, (sources.each k a inside).0 w.0, refl, w.1 ∙ sym at)
      came a (inl e) = was (is.from a)
        where
          was : (slice_index mid a ≡ slice_index old a) ⊎ ((r : Read) × Contains reads r × (r.source ≡ a) × (slice_index mid a ≡ slice_index steps r.reader))
              → (slice_index new a ≡ slice_index old a) ⊎ ((r : Read) × Contains reads r × (r.source ≡ a) × (slice_index new a ≡ slice_index steps r.reader))
          was (inl f) = inl (e ∙ f)
          was (inr w) = inr (w.0, w.1, w.2, e ∙ w.3)

  module _ (below : (r : Read) → Contains reads r → r.reader < length steps) where
    -- the next level
    pub upto_next : (distance : ℕ) (old new : List ℕ) → LowersUpTo reads steps distance (length steps) old new → LowersUpTo reads steps (distance + 1) 0 old new
    upto_next distance old new is = record {
      long = is.long;
      kept = is.kept;
      nearer = λ r there less. go r there less (cases_eq (slice_index steps r.reader) distance);
      here = λ r there at less. absurd (omega (arith, less));
      from = is.from;
    }
      where
        go : (r : Read) → Contains reads r → slice_index steps r.reader < distance + 1 → (slice_index steps r.reader ≡ distance)
            ⊎ (slice_index steps r.reader ≢ distance) → slice_index new r.source ≤ slice_index steps r.reader
        go r there less (inl at) = is.here r there at (below r there)
        go r there less (inr other) = is.nearer r there (omega (arith, less, other))

    -- all levels
    pub upto_whole : (levels : ℕ) (old new : List ℕ) → All (λ s. (s < levels) ⊎ (s ≡ NONE)) steps → ((a : ℕ) → slice_index old a ≤ NONE)
        → LowersUpTo reads steps levels 0 old new → Lowers reads steps old new
    upto_whole levels old new few small is = record {
      long = is.long;
      kept = is.kept;
      lowered = λ r there. go r there (few r.reader 0 (below r there));
      from = is.from;
    }
      where
        go : (r : Read) → Contains reads r → (slice_index steps r.reader < levels) ⊎ (slice_index steps r.reader ≡ NONE)
            → slice_index new r.source ≤ slice_index steps r.reader
        go r there (inl less) = is.nearer r there less
        go r there (inr none) = let w = is.kept r.source in let v = small r.source in omega (arith, w, v, none)
