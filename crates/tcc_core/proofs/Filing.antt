-- What is open is in the bucket of its cost, and each bucket has transactions of one cost.
use Rattle.std.proofs.Common.{◌≡◌, ◌≢◌, ◌<◌, ◌≤◌, ◌+◌, ◌*◌, ◌/◌, ◌%◌, ◌==◌, ◌⊎◌, ℕ, zero, suc, true, false, inl, inr, List}
use Rattle.std.proofs.Common.{[], ◌∷◌, length, length-set, set, take, get_or, slice_index, max, All, Contains, refl, ap, sym, ◌∙◌, subst}
use Rattle.std.proofs.Common.{arith}
use Rattle.std.proofs.lemmas.Bool.{cases_order, cases_eq}
use Rattle.std.proofs.lemmas.Bool.Decides.{eqb_tells}
use Rattle.std.proofs.lemmas.List.{get_or-set_same, get_or-set_other, get_or-take, length-take-le}
use Rattle.std.proofs.lemmas.Grind.{get_or_default_zero}
use Rattle.std.proofs.lemmas.Nat.{div-add-mod', mod_below}
use Rattle.std.proofs.Math.Nat.{mul-le-mul_right}
use Rattle.tcc_txn.specs.declared.limits.TheConstants.{MAX_COUNT}
use Rattle.tcc_core.specs.private.Buckets.{StandsIn}
use Rattle.tcc_core.specs.private.Queues.{IsNearest, IsNext, IsFiled, IsOpen, IsShut, IsFar, IsListed, count_reached}
use Rattle.tcc_core.specs.declared.bucket_queue.TheConstants.{BUCKETS}
use Rattle.tcc_core.specs.declared.queue.TheConstants.{NO_WAY}

-- numbers within n of each other with the same rest are the same
pub one_in_window : (n f x y : ℕ) → f ≤ x → x < f + n → f ≤ y → y < f + n → x % n ≡ y % n → x ≡ y
one_in_window n f x y x_least x_most y_least y_most rests = go (cases_order (x / n) (y / n))
  where
    x_parts : x / n * n + x % n ≡ x
    x_parts = div-add-mod' x n

    y_parts : y / n * n + y % n ≡ y
    y_parts = div-add-mod' y n

    go : (x / n ≡ y / n) ⊎ ((x / n < y / n) ⊎ (y / n < x / n)) → x ≡ y
    go (inl same) = let whole : x / n * n ≡ y / n * n = ap (λ q. q * n) same in omega (arith, x_parts, y_parts)
    go (inr (inl less)) = let up : (x / n + 1) * n ≤ y / n * n = mul-le-mul_right n (omega arith) in absurd (omega (arith, x_parts, y_parts))
    go (inr (inr more)) = let up : (y / n + 1) * n ≤ x / n * n = mul-le-mul_right n (omega arith) in absurd (omega (arith, x_parts, y_parts))

-- one list is the other but for what it has at v
pub record IsOneSet (old new : List ℕ) (v a : ℕ) : Type 0 where
  pub long : length new ≡ length old
  pub here : slice_index new v ≡ a
  pub kept : (x : ℕ) → x ≢ v → slice_index new x ≡ slice_index old x

pub one_set : (xs : List ℕ) (v a : ℕ) → v < length xs → IsOneSet xs (set xs v a) v a
one_set xs v a within = record {
  long = length-set xs v a;
  here = get_or-set_same xs v a 0 within;
  kept = λ x other. get_or-set_other xs v x a 0 other;
}

pub two_set : (xs : List ℕ) (v a b : ℕ) → v < length xs → IsOneSet xs (set (set xs v a) v b) v b
two_set xs v a b within =
    let first = one_set xs v a within in
    let then = one_set (set xs v a) v b (omega (arith, first.long)) in
    record {
      long = then.long ∙ first.long;
      here = then.here;
      kept = λ x other. then.kept x other ∙ first.kept x other;
    }

-- ---- one transaction is filed anew

abbrev IsFiledAt : ℕ → ℕ → ℕ → ℕ → Type 0
IsFiledAt floor most cost b = IsShut cost b ⊎ IsOpen floor most cost b

module _ {floor most : ℕ} {costs buckets : List ℕ} (is : IsFiled floor most costs buckets) where
  -- one is opened, or moves to another cost
  pub filed_opened : {more v n : ℕ} {costs' buckets' : List ℕ} → v < length costs → floor < n → n < floor + BUCKETS → n < NO_WAY → more ≡ max most n
      → IsOneSet costs costs' v n → IsOneSet buckets buckets' v (n % BUCKETS) → IsFiled floor more costs' buckets'
  filed_opened {more} {v} {n} {costs'} {buckets'} within above window few most_is costed ringed = record {
    long = omega (arith, is.long, costed.long, ringed.long);
    window = omega (arith, is.window, window, most_is);
    few = omega (arith, is.few, few, most_is);
    each = λ u below. go u (omega (arith, costed.long, below)) (cases_eq u v);
  }
    where
      higher : (u : ℕ) → IsFiledAt floor most (slice_index costs u) (slice_index buckets u) → IsFiledAt floor more (slice_index costs u) (slice_index buckets u)
      higher u (inl shut) = inl shut
      higher u (inr open_at) =
          inr (record { some = open_at.some; above = open_at.above; below = omega (arith, open_at.below, most_is); at = open_at.at })

      go : (u : ℕ) → u < length costs → (u ≡ v) ⊎ (u ≡ v → ⊥) → IsFiledAt floor more (slice_index costs' u) (slice_index buckets' u)
      go u below (inl same) =
          rw (same, costed.here, ringed.here)
          (inr (record { some = omega (arith, above); above = omega (arith, above); below = omega (arith, most_is); at = refl }))
      go u below (inr other) = rw (costed.kept u other, ringed.kept u other) (higher u (is.each u below))

  -- what is open is in a bucket
  pub open_stands : (v : ℕ) → v < length costs → 0 < slice_index costs v → slice_index costs v < NO_WAY
      → IsOpen floor most (slice_index costs v) (slice_index buckets v)
  open_stands v within some reached = go (is.each v within)
    where
      go : IsFiledAt floor most (slice_index costs v) (slice_index buckets v) → IsOpen floor most (slice_index costs v) (slice_index buckets v)
      go (inl shut) = none shut.none
        where
          none : (slice_index costs v ≡ NO_WAY) ⊎ (slice_index costs v ≡ 0) → IsOpen floor most (slice_index costs v) (slice_index buckets v)
          none (inl far) = absurd (omega arith)
          none (inr past) = absurd (omega arith)
      go (inr open_at) = open_at

  -- one of the nearest is taken out
  pub filed_settled : {v b : ℕ} {costs' buckets' : List ℕ} → IsNearest costs v → BUCKETS ≤ b → IsOneSet costs costs' v 0 → IsOneSet buckets buckets' v b
      → IsFiled (slice_index costs v) most costs' buckets'
  filed_settled {v} {b} {costs'} {buckets'} near out costed ringed = record {
    long = omega (arith, is.long, costed.long, ringed.long);
    window = let stands = open_stands v near.below near.open_at near.reached in omega (arith, is.window, stands.above);
    few = is.few;
    each = λ u below. go u (omega (arith, costed.long, below)) (cases_eq u v);
  }
    where
      kept : (u : ℕ) → u < length costs → IsFiledAt floor most (slice_index costs u) (slice_index buckets u)
          → IsFiledAt (slice_index costs v) most (slice_index costs u) (slice_index buckets u)
      kept u below (inl shut) = inl shut
      kept u below (inr open_at) = inr (record { some = open_at.some; above = near.least u below open_at.some; below = open_at.below; at = open_at.at })

      go : (u : ℕ) → u < length costs → (u ≡ v) ⊎ (u ≡ v → ⊥) → IsFiledAt (slice_index costs v) most (slice_index costs' u) (slice_index buckets' u)
      go u below (inl same) = rw (same, costed.here, ringed.here) (inl (record { none = inr refl; out = out }))
      go u below (inr other) = rw (costed.kept u other, ringed.kept u other) (kept u below (is.each u below))

  -- what was not reached is in none
  shut_out : (v : ℕ) → v < length costs → slice_index costs v ≡ NO_WAY → BUCKETS ≤ slice_index buckets v
  shut_out v within far = go (is.each v within)
    where
      go : IsFiledAt floor most (slice_index costs v) (slice_index buckets v) → BUCKETS ≤ slice_index buckets v
      go (inl shut) = shut.out
      go (inr open_at) = absurd (omega (arith, open_at.below, is.few))

  -- what is in the bucket of a cost below which nothing is open is next
  pub next_found : {cap : ℕ} (cost v : ℕ) → floor ≤ cost → cost ≤ most → cost ≤ cap → StandsIn buckets (cost % BUCKETS) v
      → ((u : ℕ) → u < length costs → 0 < slice_index costs u → cost ≤ slice_index costs u)
      → IsNext (record { costs = costs; floor = floor }) cap v
  next_found {cap} cost v up down low found least = go (is.each v (omega (arith, is.long, found.below)))
    where
      go : IsFiledAt floor most (slice_index costs v) (slice_index buckets v) → IsNext (record { costs = costs; floor = floor }) cap v
      go (inl shut) = absurd (omega (arith, found.at, shut.out, mod_below cost BUCKETS (omega arith)))
      go (inr open_at) =
          let same : slice_index costs v ≡ cost =
          one_in_window BUCKETS floor (slice_index costs v) cost open_at.above (omega (arith, open_at.below, is.window)) up (omega (arith, is.window))
          (sym open_at.at ∙ found.at) in
          record {
            near = record {
              below = omega (arith, is.long, found.below);
              open_at = open_at.some;
              reached = omega (arith, open_at.below, is.few);
              least = λ u within some. omega (arith, same, least u within some);
            };
            within = omega (arith, same, low);
            above = omega (arith, same, up);
            window = omega (arith, same, down, is.window);
          }

-- ---- transactions that were reached

-- whether a cost is one of no way
abbrev Tells : ℕ → Type 0
Tells c = (((c == NO_WAY) ≡ true) × (c ≡ NO_WAY)) ⊎ (((c == NO_WAY) ≡ false) × (c ≢ NO_WAY))

tells : (c : ℕ) → Tells c
tells c = eqb_tells c NO_WAY

reached_cons : (c : ℕ) (costs : List ℕ) → c ≢ NO_WAY → count_reached (c ∷ costs) ≡ count_reached costs + 1
reached_cons c costs other = go (tells c)
  where
    go : Tells c → count_reached (c ∷ costs) ≡ count_reached costs + 1
    go (inl (test, same)) = absurd (other same)
    go (inr (test, apart)) = rw test refl

far_cons : (c : ℕ) (costs : List ℕ) → c ≡ NO_WAY → count_reached (c ∷ costs) ≡ count_reached costs
far_cons c costs same = go (tells c)
  where
    go : Tells c → count_reached (c ∷ costs) ≡ count_reached costs
    go (inl (test, far)) = rw test refl
    go (inr (test, apart)) = absurd (apart same)

pub reached_most : (costs : List ℕ) → count_reached costs ≤ length costs
reached_most [] = omega arith
reached_most (c ∷ costs) = go (tells c) (reached_most costs)
  where
    go : Tells c → count_reached costs ≤ length costs → count_reached (c ∷ costs) ≤ length (c ∷ costs)
    go (inl (test, same)) few = omega (arith, far_cons c costs same)
    go (inr (test, other)) few = omega (arith, reached_cons c costs other)

pub reached_more : (costs : List ℕ) (v c : ℕ) → v < length costs → slice_index costs v ≡ NO_WAY → c ≢ NO_WAY
    → count_reached (set costs v c) ≡ count_reached costs + 1
reached_more [] v c within far some = absurd (omega arith)
reached_more (d ∷ costs) zero c within far some = omega (arith, reached_cons c costs some, far_cons d costs far)
reached_more (d ∷ costs) (suc v) c within far some = go (tells d) (reached_more costs v c (omega arith) far some)
  where
    go : Tells d → count_reached (set costs v c) ≡ count_reached costs + 1 → count_reached (set (d ∷ costs) (suc v) c) ≡ count_reached (d ∷ costs) + 1
    go (inl (test, same)) again = omega (arith, far_cons d (set costs v c) same, far_cons d costs same, again)
    go (inr (test, other)) again = omega (arith, reached_cons d (set costs v c) other, reached_cons d costs other, again)

pub reached_kept : (costs : List ℕ) (v c : ℕ) → v < length costs → slice_index costs v ≢ NO_WAY → c ≢ NO_WAY
    → count_reached (set costs v c) ≡ count_reached costs
reached_kept [] v c within known some = absurd (omega arith)
reached_kept (d ∷ costs) zero c within known some = omega (arith, reached_cons c costs some, reached_cons d costs known)
reached_kept (d ∷ costs) (suc v) c within known some = go (tells d) (reached_kept costs v c (omega arith) known some)
  where
    go : Tells d → count_reached (set costs v c) ≡ count_reached costs → count_reached (set (d ∷ costs) (suc v) c) ≡ count_reached (d ∷ costs)
    go (inl (test, same)) again = omega (arith, far_cons d (set costs v c) same, far_cons d costs same, again)
    go (inr (test, other)) again = omega (arith, reached_cons d (set costs v c) other, reached_cons d costs other, again)

pub reached_below : (costs : List ℕ) (v : ℕ) → v < length costs → slice_index costs v ≡ NO_WAY → count_reached costs < length costs
reached_below [] v within far = absurd (omega arith)
reached_below (d ∷ costs) zero within far = omega (arith, far_cons d costs far, reached_most costs)
reached_below (d ∷ costs) (suc v) within far = go (tells d) (reached_below costs v (omega arith) far)
  where
    go : Tells d → count_reached costs < length costs → count_reached (d ∷ costs) < length (d ∷ costs)
    go (inl (test, same)) again = omega (arith, far_cons d costs same, again)
    go (inr (test, other)) again = omega (arith, reached_cons d costs other, again)

pub reached_none : (costs : List ℕ) → ((v : ℕ) → v < length costs → slice_index costs v ≡ NO_WAY) → count_reached costs ≡ 0
reached_none [] all = refl
reached_none (d ∷ costs) all = omega (arith, far_cons d costs (all 0 (omega arith)), reached_none costs (λ v within. all (suc v) (omega arith)))

-- ---- the list of them

pub listed_none : (listed costs : List ℕ) → length listed ≡ length costs → length listed ≤ MAX_COUNT
    → ((v : ℕ) → v < length costs → slice_index costs v ≡ NO_WAY) → IsListed 0 listed costs
listed_none listed costs long few all = record {
  long = long;
  few = few;
  counted = sym (reached_none costs all);
  below = λ k low. absurd (omega arith);
  each = λ v within some. absurd (some (all v within));
}

module _ {held : ℕ} {listed costs : List ℕ} (is : IsListed held listed costs) where
  pub listed_more : (v c : ℕ) → v < length costs → slice_index costs v ≡ NO_WAY → c ≢ NO_WAY → IsListed (held + 1) (set listed held v) (set costs v c)
  listed_more v c within far some = record {
    long = now.long ∙ is.long ∙ sym costed.long;
    few = omega (arith, now.long, is.few);
    counted = omega (arith, is.counted, reached_more costs v c within far some);
    below = λ k low. below k low (cases_eq k held);
    each = λ u inside reached. each u (omega (arith, costed.long, inside)) reached (cases_eq u v);
  }
    where
      costed : IsOneSet costs (set costs v c) v c
      costed = one_set costs v c within

      now : IsOneSet listed (set listed held v) held v
      now = one_set listed held v (omega (arith, is.long, is.counted, reached_below costs v within far))

      below : (k : ℕ) → k < held + 1 → (k ≡ held) ⊎ (k ≡ held → ⊥) → slice_index (set listed held v) k < length (set costs v c)
      below k low (inl same) = rw same (omega (arith, now.here, costed.long, within))
      below k low (inr other) = omega (arith, now.kept k other, costed.long, is.below k (omega arith))

      each : (u : ℕ) → u < length costs → slice_index (set costs v c) u ≢ NO_WAY → (u ≡ v) ⊎ (u ≡ v → ⊥)
          → (k : ℕ) × (k < held + 1) × (slice_index (set listed held v) k ≡ u)
      each u inside reached (inl same) = (held, omega arith, now.here ∙ sym same)
      each u inside reached (inr other) =
          let (k, low, at) = is.each u inside (λ e. reached (costed.kept u other ∙ e)) in
          (k, omega arith, now.kept k (λ e. omega arith) ∙ at)

  pub listed_kept : (v c : ℕ) → v < length costs → slice_index costs v ≢ NO_WAY → c ≢ NO_WAY → IsListed held listed (set costs v c)
  listed_kept v c within known some = record {
    long = is.long ∙ sym costed.long;
    few = is.few;
    counted = is.counted ∙ sym (reached_kept costs v c within known some);
    below = λ k low. omega (arith, costed.long, is.below k low);
    each = λ u inside reached. each u (omega (arith, costed.long, inside)) reached (cases_eq u v);
  }
    where
      costed : IsOneSet costs (set costs v c) v c
      costed = one_set costs v c within

      each : (u : ℕ) → u < length costs → slice_index (set costs v c) u ≢ NO_WAY → (u ≡ v) ⊎ (u ≡ v → ⊥)
          → (k : ℕ) × (k < held) × (slice_index listed k ≡ u)
      each u inside reached (inl same) = is.each u inside (λ e. known (ap (slice_index costs) (sym same) ∙ e))
      each u inside reached (inr other) = is.each u inside (λ e. reached (costed.kept u other ∙ e))

  -- ---- the part of the list that is held

  held_few : held ≤ length listed
  held_few = omega (arith, is.long, is.counted, reached_most costs)

  pub taken_long : held ≡ length (take held listed)
  taken_long = sym (length-take-le held listed held_few)

  taken_at : (k d : ℕ) → k < held → get_or (take held listed) k d ≡ slice_index listed k
  taken_at k d low = get_or-take held listed k d low ∙ get_or_default_zero listed k d (omega (arith, held_few))

  pub taken_below : All (λ v. v < length costs) (take held listed)
  taken_below k d low = omega (arith, taken_at k d (omega (arith, taken_long)), is.below k (omega (arith, taken_long)))

  pub taken_each : (v : ℕ) → v < length costs → slice_index costs v ≢ NO_WAY → Contains (take held listed) v
  taken_each v within some =
      let (k, low, at) = is.each v within some in
      (k, omega (arith, taken_long), taken_at k v low ∙ at)

  -- all others are in no bucket
  pub taken_or_far : {floor most : ℕ} {buckets : List ℕ} → IsFiled floor most costs buckets
      → (v : ℕ) → v < length costs → Contains (take held listed) v ⊎ IsFar costs buckets v
  taken_or_far {buckets = buckets} filed v within = go (tells (slice_index costs v))
    where
      go : Tells (slice_index costs v) → Contains (take held listed) v ⊎ IsFar costs buckets v
      go (inl (test, far)) = inr (far, shut_out filed v within far)
      go (inr (test, other)) = inl (taken_each v within other)

-- ---- all ways removed

-- those of a list are removed, and what else there is was not reached
pub shut_all : (listed costs buckets costs' buckets' : List ℕ) → ((k : ℕ) → k < length listed → IsFar costs' buckets' (slice_index listed k))
    → ((u : ℕ) → u < length costs → ((slice_index costs' u ≡ slice_index costs u) × (slice_index buckets' u ≡ slice_index buckets u)) ⊎ IsFar costs' buckets' u)
    → ((v : ℕ) → v < length costs → Contains listed v ⊎ IsFar costs buckets v)
    → (v : ℕ) → v < length costs → IsFar costs' buckets' v
shut_all listed costs buckets costs' buckets' shut kept each v within = go (each v within) (kept v within)
  where
    go : Contains listed v ⊎ IsFar costs buckets v → ((slice_index costs' v ≡ slice_index costs v) × (slice_index buckets' v ≡ slice_index buckets v))
        ⊎ IsFar costs' buckets' v
        → IsFar costs' buckets' v
    go any (inr far) = far
    go (inr (far, out)) (inl (same, stood)) = (same ∙ far, omega (arith, stood, out))
    go (inl (k, low, at)) any = subst (λ (u : ℕ). IsFar costs' buckets' u) (sym (get_or_default_zero listed k v low) ∙ at) (shut k low)

pub filed_none : (costs buckets : List ℕ) → length costs ≡ length buckets → ((v : ℕ) → v < length costs → IsFar costs buckets v) → IsFiled 0 0 costs buckets
filed_none costs buckets long all = record {
  long = long;
  window = omega arith;
  few = omega arith;
  each = λ v within. let (far, out) = all v within in inl (record { none = inl far; out = out });
}
