-- After each call the tables are those of buckets again, and what that says of the ends of buckets.
use Rattle.std.proofs.Common.{◌≡◌, ◌≢◌, ◌<◌, ◌≤◌, ◌+◌, ◌==◌, ◌⊎◌, ℕ, zero, suc, inl, inr, cond}
use Rattle.std.proofs.Common.{List, length, set, length-set, slice_index, refl, sym, ◌∙◌, ap, arith}
use Rattle.std.proofs.Common.{eq-eqb}
use Rattle.std.proofs.lemmas.Bool.{cases_lt, ne_eqb}
use Rattle.std.proofs.lemmas.List.{get_or-set_same, get_or-set_other}
use Rattle.tcc_core.specs.private.LinkedBuckets.{home, IsPaired, AreLinked}
use Rattle.tcc_core.proofs.BucketHomes.{home_number, home_end, end_of, home_inside, home_set, home_kept}
use Rattle.tcc_core.proofs.BucketPairs.{IsOneOff, IsTwoOff, put_paired, put_falls, take_paired, take_falls}

-- ---- writes, as functions
one_off : (xs : List ℕ) (i a : ℕ) → i < length xs → IsOneOff (slice_index xs) (slice_index (set xs i a)) i a
one_off xs i a inside = record {
  here = get_or-set_same xs i a 0 inside;
  kept = λ x other. get_or-set_other xs i x a 0 other;
}

two_off : (xs : List ℕ) (i a j b : ℕ) → i ≢ j → i < length xs → j < length xs → IsTwoOff (slice_index xs) (slice_index (set (set xs i a) j b)) i a j b
two_off xs i a j b apart inside also =
    let long : length (set xs i a) ≡ length xs = length-set xs i a in
    record {
      first = get_or-set_other (set xs i a) j i b 0 apart ∙ get_or-set_same xs i a 0 inside;
      second = get_or-set_same (set xs i a) j b 0 (omega arith);
      kept = λ x far other. get_or-set_other (set xs i a) j x b 0 other ∙ get_or-set_other xs i x a 0 far;
    }

home_off : (bucket : List ℕ) (v b : ℕ) → v < length bucket → IsOneOff (home bucket) (home (set bucket v b)) v b
home_off bucket v b below = record { here = home_set bucket v b below; kept = λ x other. home_kept bucket v b x other }

-- ---- one function that is raised at one index
raised : (ℕ → ℕ) → ℕ → ℕ → ℕ → ℕ
raised rank v top x = cond (x == v) top (rank x)

raised_off : (rank : ℕ → ℕ) (v top : ℕ) → IsOneOff rank (raised rank v top) v top
unfolding raised
raised_off rank v top = record { here = rw (eq-eqb v v refl) refl; kept = λ x other. rw (ne_eqb x v other) refl }

module _ {size : ℕ} {next prev bucket : List ℕ} (buckets : AreLinked size next prev bucket) where
  -- the neighbours of what is in a bucket are indices of the tables
  pub next_inside : (x : ℕ) → home bucket x < size → slice_index next x < length bucket + size
  next_inside x stands = home_inside bucket size (slice_index next x) (omega (arith, buckets.onward.same x stands))

  pub prev_inside : (x : ℕ) → home bucket x < size → slice_index prev x < length bucket + size
  prev_inside x stands = home_inside bucket size (slice_index prev x) (omega (arith, buckets.back.same x stands))

  -- ---- the first in a bucket
  first_home : (b : ℕ) → b < size → home bucket (slice_index next (length bucket + b)) ≡ b
  first_home b within = buckets.onward.same (length bucket + b) (omega (arith, home_end bucket b)) ∙ home_end bucket b

  pub first_stands : (b : ℕ) → b < size → slice_index next (length bucket + b) < length bucket → slice_index bucket (slice_index next (length bucket + b)) ≡ b
  first_stands b within below = sym (home_number bucket (slice_index next (length bucket + b)) below) ∙ first_home b within

  -- from what is in a bucket, the ways onward lead to the end of the bucket
  leads_back : (b k x : ℕ) → b < size → length bucket ≤ slice_index next (length bucket + b) → buckets.rank x < k → x < length bucket → home bucket x ≡ b → ⊥
  leads_back b zero x within empty low below at = absurd (omega arith)
  leads_back b (suc k) x within empty low below at =
      go (buckets.falls x below (omega arith)) (cases_lt (slice_index next x) (length bucket)) (leads_back b k (slice_index next x) within empty)
    where
      y : ℕ
      y = slice_index next x

      y_home : home bucket y ≡ b
      y_home = buckets.onward.same x (omega arith) ∙ at

      -- an end at y is the end of this bucket, and what comes before it is x; but it has itself there
      end : length bucket ≤ y → ⊥
      end past =
          let e : ℕ = length bucket + b in
          let y_end : y ≡ e = omega (arith, end_of bucket y past, y_home) in
          let first : slice_index next e ≡ e = omega (arith, end_of bucket (slice_index next e) empty, first_home b within) in
          let x_prev : slice_index prev y ≡ x = buckets.onward.back x (omega arith) in
          let e_prev : slice_index prev (slice_index next e) ≡ e = buckets.onward.back e (omega (arith, home_end bucket b)) in
          let same : x ≡ e = sym x_prev ∙ (ap (slice_index prev) (y_end ∙ sym first) ∙ e_prev) in
          omega arith

      go : (length bucket ≤ y) ⊎ (buckets.rank y < buckets.rank x) → (y < length bucket) ⊎ (length bucket ≤ y)
          → (buckets.rank y < k → y < length bucket → home bucket y ≡ b → ⊥) → ⊥
      go _ (inr past) again = end past
      go (inl past) (inl low_y) again = absurd (omega arith)
      go (inr less) (inl low_y) again = again (omega arith) low_y y_home

  pub first_none : (b : ℕ) → b < size → length bucket ≤ slice_index next (length bucket + b) → (v : ℕ) → v < length bucket → slice_index bucket v ≢ b
  first_none b within empty v below at = leads_back b (suc (buckets.rank v)) v within empty (omega arith) below (home_number bucket v below ∙ at)

  -- ---- one more number
  pub ring_put : (v b : ℕ) → v < length bucket → size ≤ slice_index bucket v → b < size
      → let s = length bucket + b in let h = slice_index next s in
      AreLinked size (set (set next v h) s v) (set (set prev v s) h v) (set bucket v b)
  ring_put v b below out within = record {
    next_long = length-set (set next v h) s v ∙ (length-set next v h ∙ (buckets.next_long ∙ ap (λ n. n + size) (sym long)));
    prev_long = length-set (set prev v s) h v ∙ (length-set prev v s ∙ (buckets.prev_long ∙ ap (λ n. n + size) (sym long)));
    few = omega (arith, buckets.few, long);
    onward = put_paired buckets.onward homes nexts prevs v_out within s_home refl;
    back = put_paired buckets.back homes prevs nexts v_out within h_home h_prev;
    rank = raised buckets.rank v (buckets.rank h + 1);
    falls =
        rw long (put_falls (length bucket) buckets.onward homes nexts
        (raised_off buckets.rank v (buckets.rank h + 1)) v_out within s_home refl (omega arith) buckets.falls);
  }
    where
      s : ℕ
      s = length bucket + b

      h : ℕ
      h = slice_index next s

      long : length (set bucket v b) ≡ length bucket
      long = length-set bucket v b

      s_home : home bucket s ≡ b
      s_home = home_end bucket b

      h_home : home bucket h ≡ b
      h_home = first_home b within

      h_prev : slice_index prev h ≡ s
      h_prev = buckets.onward.back s (omega (arith, s_home))

      v_out : size ≤ home bucket v
      v_out = omega (arith, home_number bucket v below)

      h_inside : h < length bucket + size
      h_inside = next_inside s (omega (arith, s_home))

      other : (x : ℕ) → home bucket x < size → x ≢ v
      other x stands e = absurd (let same : home bucket x ≡ home bucket v = ap (home bucket) e in omega (arith, v_out))

      homes : IsOneOff (home bucket) (home (set bucket v b)) v b
      homes = home_off bucket v b below

      nexts : IsTwoOff (slice_index next) (slice_index (set (set next v h) s v)) v h s v
      nexts = two_off next v h s v (λ e. other s (omega (arith, s_home)) (sym e)) (omega (arith, buckets.next_long)) (omega (arith, buckets.next_long))

      prevs : IsTwoOff (slice_index prev) (slice_index (set (set prev v s) h v)) v s h v
      prevs = two_off prev v s h v (λ e. other h (omega (arith, h_home)) (sym e)) (omega (arith, buckets.prev_long)) (omega (arith, buckets.prev_long, h_inside))

  -- ---- one number fewer
  pub ring_take : (v b : ℕ) → v < length bucket → slice_index bucket v < size → size ≤ b
      → let p = slice_index prev v in let n = slice_index next v in
      AreLinked size (set next p n) (set prev n p) (set bucket v b)
  ring_take v b below stands out = record {
    next_long = length-set next p n ∙ (buckets.next_long ∙ ap (λ n. n + size) (sym long));
    prev_long = length-set prev n p ∙ (buckets.prev_long ∙ ap (λ n. n + size) (sym long));
    few = omega (arith, buckets.few, long);
    onward = take_paired buckets.onward buckets.back homes nexts prevs v_home out refl refl n_other;
    back = take_paired buckets.back buckets.onward homes prevs nexts v_home out refl refl p_other;
    rank = buckets.rank;
    falls = rw long (take_falls (length bucket) buckets.rank buckets.back homes nexts below v_home out refl refl buckets.falls);
  }
    where
      p : ℕ
      p = slice_index prev v

      n : ℕ
      n = slice_index next v

      long : length (set bucket v b) ≡ length bucket
      long = length-set bucket v b

      v_home : home bucket v < size
      v_home = omega (arith, home_number bucket v below)

      n_other : n ≢ v
      n_other e = go (buckets.falls v below v_home)
        where
          go : (length bucket ≤ n) ⊎ (buckets.rank n < buckets.rank v) → ⊥
          go (inl past) = absurd (omega arith)
          go (inr less) = absurd (let same : buckets.rank n ≡ buckets.rank v = ap buckets.rank e in omega arith)

      p_other : p ≢ v
      p_other e = n_other (ap (slice_index next) (sym e) ∙ buckets.back.back v v_home)

      homes : IsOneOff (home bucket) (home (set bucket v b)) v b
      homes = home_off bucket v b below

      nexts : IsOneOff (slice_index next) (slice_index (set next p n)) p n
      nexts = one_off next p n (omega (arith, buckets.next_long, prev_inside v v_home))

      prevs : IsOneOff (slice_index prev) (slice_index (set prev n p)) n p
      prevs = one_off prev n p (omega (arith, buckets.prev_long, next_inside v v_home))

-- ---- no number in any bucket
pub ring_empty : (size : ℕ) (next prev bucket : List ℕ) → length next ≡ length bucket + size → length prev ≡ length bucket + size
    → length bucket + size < 4294967295
    → ((v : ℕ) → v < length bucket → slice_index bucket v ≡ 4294967295)
    → ((s : ℕ) → length bucket ≤ s → s < length next → slice_index next s ≡ s) → ((s : ℕ) → length bucket ≤ s → s < length prev → slice_index prev s ≡ s)
    → AreLinked size next prev bucket
ring_empty size next prev bucket next_long prev_long few none next_ends prev_ends = record {
  next_long = next_long;
  prev_long = prev_long;
  few = few;
  onward = paired (slice_index next) (slice_index prev) (λ s up within. next_ends s up (omega arith)) (λ s up within. prev_ends s up (omega arith));
  back = paired (slice_index prev) (slice_index next) (λ s up within. prev_ends s up (omega arith)) (λ s up within. next_ends s up (omega arith));
  rank = λ x. x;
  falls = λ v below stands. absurd (omega (arith, past v stands));
}
  where
    past : (x : ℕ) → home bucket x < size → length bucket ≤ x
    past x stands = go (cases_lt x (length bucket))
      where
        go : (x < length bucket) ⊎ (length bucket ≤ x) → length bucket ≤ x
        go (inl below) = absurd (omega (arith, home_number bucket x below, none x below))
        go (inr up) = up

    paired : (N P : ℕ → ℕ) → ((s : ℕ) → length bucket ≤ s → s < length bucket + size → N s ≡ s)
        → ((s : ℕ) → length bucket ≤ s → s < length bucket + size → P s ≡ s) → IsPaired size N P (home bucket)
    paired N P n_ends p_ends = record {
      same = λ x stands. ap (home bucket) (n_ends x (past x stands) (home_inside bucket size x stands));
      back = λ x stands. ap P (n_ends x (past x stands) (home_inside bucket size x stands)) ∙ p_ends x (past x stands) (home_inside bucket size x stands);
    }
