-- Costs after ways were offered, one by one and together.
use Rattle.std.specs.List.{AllPairs}
use Rattle.std.proofs.Common.{◌≡◌, ◌≢◌, ◌<◌, ◌≤◌, ◌+◌, ◌-◌, ◌&&◌, ℕ, zero, suc, [], ◌∷◌, get_or, ap, ◌⊎◌, inl, inr, true}
use Rattle.std.proofs.Common.{false, Bool, cond, nat_lt, List, length, length-set, slice_index, slice_set, refl, sym, ◌∙◌}
use Rattle.std.proofs.Common.{subst, arith}
use Rattle.std.proofs.lemmas.Bool.{cases_lt, cases_eq, ltb-true, ltb-false}
use Rattle.std.proofs.lemmas.List.{get_or-set_same, get_or-set_other}
use Rattle.tcc_core.specs.private.Queues.{Queue, offered}
use Rattle.tcc_core.specs.private.Offers.{IsLower, IsOffered, IsWayBy, MayOffer}
use Rattle.tcc_core.specs.declared.bucket_queue.TheConstants.{BUCKETS}

-- ---- lower costs

pub lower_same : (floor : ℕ) (costs : List ℕ) → IsLower floor costs costs
lower_same floor costs = record { long = refl; each = λ v within. inl refl }

pub lower_least : (floor : ℕ) (old new : List ℕ) (v : ℕ) → IsLower floor old new → v < length old → slice_index new v ≤ slice_index old v
lower_least floor old new v is within = go (is.each v within)
  where
    go : (slice_index new v ≡ slice_index old v) ⊎ ((floor < slice_index new v) × (slice_index new v ≤ slice_index old v))
        → slice_index new v ≤ slice_index old v
    go (inl same) = omega (arith, same)
    go (inr less) = less.1

-- what was 0 stays so, and nothing else becomes 0
pub lower_some : (floor : ℕ) (old new : List ℕ) (v : ℕ) → IsLower floor old new → v < length old → 0 < slice_index old v → 0 < slice_index new v
lower_some floor old new v is within some = go (is.each v within)
  where
    go : (slice_index new v ≡ slice_index old v) ⊎ ((floor < slice_index new v) × (slice_index new v ≤ slice_index old v)) → 0 < slice_index new v
    go (inl same) = omega (arith, same)
    go (inr less) = omega (arith, less.0)

pub lower_then : (floor : ℕ) (old mid new : List ℕ) → IsLower floor old mid → IsLower floor mid new → IsLower floor old new
lower_then floor old mid new first then = record {
  long = then.long ∙ first.long;
  each = λ v within. go v within (then.each v (omega (arith, first.long)));
}
  where
    go : (v : ℕ) → v < length old → (slice_index new v ≡ slice_index mid v) ⊎ ((floor < slice_index new v) × (slice_index new v ≤ slice_index mid v))
        → (slice_index new v ≡ slice_index old v) ⊎ ((floor < slice_index new v) × (slice_index new v ≤ slice_index old v))
    go v within (inl same) = rw same (first.each v within)
    go v within (inr (above, less)) = inr (above, omega (arith, less, lower_least floor old mid v first within))

-- ---- offers together

pub offered_none : (IsOne : ℕ → ℕ → Type 0) (floor : ℕ) (costs : List ℕ) → ((v n : ℕ) → v < length costs → IsOne v n → floor < n → slice_index costs v ≤ n)
    → IsOffered IsOne floor costs costs
offered_none IsOne floor costs known = record {
  lower = lower_same floor costs;
  least = known;
  from = λ v within. inl refl;
}

-- offers of one kind after offers of another
pub offered_then : (First Then Both : ℕ → ℕ → Type 0) (floor : ℕ) (old mid new : List ℕ) → ((v n : ℕ) → Both v n → First v n ⊎ Then v n)
    → ((v n : ℕ) → First v n → Both v n) → ((v n : ℕ) → Then v n → Both v n)
    → IsOffered First floor old mid → IsOffered Then floor mid new → IsOffered Both floor old new
offered_then First Then Both floor old mid new split one other first then = record {
  lower = lower_then floor old mid new first.lower then.lower;
  least = λ v n within is above. least v n within above (split v n is);
  from = λ v within. from v (then.from v (omega (arith, first.lower.long))) (first.from v within);
}
  where
    least : (v n : ℕ) → v < length old → floor < n → First v n ⊎ Then v n → slice_index new v ≤ n
    least v n within above (inl is) = omega (arith, first.least v n within is above, lower_least floor mid new v then.lower (omega (arith, first.lower.long)))
    least v n within above (inr is) = then.least v n (omega (arith, first.lower.long)) is above

    from : (v : ℕ) → (slice_index new v ≡ slice_index mid v) ⊎ Then v (slice_index new v)
        → (slice_index mid v ≡ slice_index old v) ⊎ First v (slice_index mid v) → (slice_index new v ≡ slice_index old v) ⊎ Both v (slice_index new v)
    from v (inr is) any = inr (other v (slice_index new v) is)
    from v (inl same) (inl kept) = inl (same ∙ kept)
    from v (inl same) (inr is) = inr (one v (slice_index new v) (subst (λ (n : ℕ). First v n) (sym same) is))

-- offers of equal ways, stated otherwise
pub offered_same : (One Other : ℕ → ℕ → Type 0) (floor : ℕ) (old new : List ℕ) → ((v n : ℕ) → v < length old → One v n → Other v n)
    → ((v n : ℕ) → v < length old → Other v n → floor < n → One v n ⊎ (slice_index old v ≤ n)) → IsOffered One floor old new → IsOffered Other floor old new
offered_same One Other floor old new into back is = record {
  lower = is.lower;
  least = λ v n within other above. least v n within above (back v n within other above);
  from = λ v within. from v within (is.from v within);
}
  where
    least : (v n : ℕ) → v < length old → floor < n → One v n ⊎ (slice_index old v ≤ n) → slice_index new v ≤ n
    least v n within above (inl one) = is.least v n within one above
    least v n within above (inr low) = omega (arith, low, lower_least floor old new v is.lower within)

    from : (v : ℕ) → v < length old → (slice_index new v ≡ slice_index old v) ⊎ One v (slice_index new v)
        → (slice_index new v ≡ slice_index old v) ⊎ Other v (slice_index new v)
    from v within (inl same) = inl same
    from v within (inr one) = inr (into v (slice_index new v) within one)

-- ---- one offer

-- what an offer makes of a cost
record IsTaken (floor : ℕ) (costs new : List ℕ) (v n : ℕ) : Type 0 where
  long : length new ≡ length costs
  other : (u : ℕ) → u ≢ v → slice_index new u ≡ slice_index costs u
  here : (slice_index new v ≡ slice_index costs v) ⊎ ((floor < n) × (n < slice_index costs v) × (slice_index new v ≡ n))
  low : floor < n → slice_index new v ≤ n

taken : (floor : ℕ) (costs : List ℕ) (v n : ℕ) → v < length costs → n < floor + BUCKETS → IsTaken floor costs (offered floor costs v n) v n
taken floor costs v n within window = go (nat_lt floor n) refl (nat_lt (n - floor) BUCKETS) refl (nat_lt n (slice_index costs v)) refl
  where
    go : (a : Bool) → nat_lt floor n ≡ a → (b : Bool) → nat_lt (n - floor) BUCKETS ≡ b → (c : Bool) → nat_lt n (slice_index costs v) ≡ c
        → IsTaken floor costs (cond (a && (b && c)) (slice_set costs v n) costs) v n
    go true above true near true less = record {
      long = length-set costs v n;
      other = λ u apart. get_or-set_other costs v u n 0 apart;
      here = inr (ltb-true floor n above, ltb-true n (slice_index costs v) less, get_or-set_same costs v n 0 within);
      low = λ up. omega (arith, get_or-set_same costs v n 0 within);
    }
    go true above true near false more = record { long = refl; other = λ u apart. refl; here = inl refl; low = λ up. ltb-false n (slice_index costs v) more }
    go true above false far c any = absurd (omega (arith, ltb-true floor n above, ltb-false (n - floor) BUCKETS far))
    go false below b any c also = record { long = refl; other = λ u apart. refl; here = inl refl; low = λ up. absurd (omega (arith, ltb-false floor n below)) }

pub offered_one : (floor : ℕ) (costs : List ℕ) (v n : ℕ) → v < length costs → n < floor + BUCKETS
    → IsOffered (λ u m. (u ≡ v) × (n ≡ m)) floor costs (offered floor costs v n)
offered_one floor costs v n within window = record {
  lower = record { long = is.long; each = λ u inside. lower u (cases_eq u v) };
  least = λ u m inside (same, equal) above. rw same (omega (arith, is.low (omega (arith, equal)), equal));
  from = λ u inside. from u (cases_eq u v);
}
  where
    new : List ℕ
    new = offered floor costs v n

    is : IsTaken floor costs new v n
    is = taken floor costs v n within window

    here : (slice_index new v ≡ slice_index costs v) ⊎ ((floor < n) × (n < slice_index costs v) × (slice_index new v ≡ n))
        → (slice_index new v ≡ slice_index costs v) ⊎ ((floor < slice_index new v) × (slice_index new v ≤ slice_index costs v))
    here (inl same) = inl same
    here (inr (above, less, equal)) = inr (omega (arith, equal), omega (arith, equal))

    lower : (u : ℕ) → (u ≡ v) ⊎ (u ≡ v → ⊥) → (slice_index new u ≡ slice_index costs u)
        ⊎ ((floor < slice_index new u) × (slice_index new u ≤ slice_index costs u))
    lower u (inl same) = rw same (here is.here)
    lower u (inr other) = inl (is.other u other)

    there : (u : ℕ) → u ≡ v → (slice_index new v ≡ slice_index costs v) ⊎ ((floor < n) × (n < slice_index costs v) × (slice_index new v ≡ n))
        → (slice_index new u ≡ slice_index costs u) ⊎ ((u ≡ v) × (n ≡ slice_index new u))
    there u same (inl kept) = inl (rw same kept)
    there u same (inr (above, less, equal)) = inr (same, rw same (sym equal))

    from : (u : ℕ) → (u ≡ v) ⊎ (u ≡ v → ⊥) → (slice_index new u ≡ slice_index costs u) ⊎ ((u ≡ v) × (n ≡ slice_index new u))
    from u (inl same) = there u same is.here
    from u (inr other) = inl (is.other u other)

-- ---- links of a list, one by one

same_at : {X : Type 0} (xs : List X) (i : ℕ) (d e : X) → i < length xs → get_or xs i d ≡ get_or xs i e
same_at [] i d e low = absurd (omega arith)
same_at (x ∷ xs) zero d e low = refl
same_at (x ∷ xs) (suc i) d e low = same_at xs i d e (omega arith)

abbrev at : List (ℕ × ℕ) → ℕ → ℕ × ℕ
at links i = get_or links i (0, 0)

-- a way on by one of the first k links
abbrev pub IsWayUpTo : List (ℕ × ℕ) → ℕ → ℕ → ℕ → ℕ → ℕ → ℕ → Type 0
IsWayUpTo links k s d left v n = (s ≤ v) × (i : ℕ) × (i < k) × ((at links i).0 ≡ v) × ((at links i).1 ≤ left) × (d + (at links i).1 ≡ n)

-- what a queue is after the first k links were looked at
pub record HasOffered (links : List (ℕ × ℕ)) (s d left k : ℕ) (old new : Queue) : Type 0 where
  pub floor : new.floor ≡ old.floor
  pub offered : IsOffered (IsWayUpTo links k s d left) old.floor old.costs new.costs

pub none_offered : (links : List (ℕ × ℕ)) (s d left : ℕ) (queue : Queue) → HasOffered links s d left 0 queue queue
none_offered links s d left queue = record {
  floor = refl;
  offered =
      offered_none (IsWayUpTo links 0 s d left) queue.floor queue.costs (λ v n within (up, i, low, to, few, equal) above. absurd (omega (arith, low)));
}

module _ {links : List (ℕ × ℕ)} {s d left k : ℕ} {old new : Queue} (is : HasOffered links s d left k old new) where
  -- the next link is offered
  pub next_offered : MayOffer links d left old → k < length links → s ≤ (at links k).0 → (at links k).1 ≤ left
      → HasOffered links s d left (k + 1) old (record new { costs = offered new.floor new.costs (at links k).0 (d + (at links k).1) })
  next_offered may more from cheap = record {
    floor = is.floor;
    offered =
        rw is.floor
        (offered_then (IsWayUpTo links k s d left) (λ u m. (u ≡ (at links k).0) × (d + (at links k).1 ≡ m)) (IsWayUpTo links (k + 1) s d left)
        old.floor old.costs new.costs (offered old.floor new.costs (at links k).0 (d + (at links k).1))
        (λ v n (up, i, low, to, few, equal). split v n i up low to few equal (cases_eq i k))
        (λ v n (up, i, low, to, few, equal). (up, i, omega (arith, low), to, few, equal))
        (λ v n (same, equal). (omega (arith, same, from), k, omega arith, sym same, cheap, equal))
        is.offered
        (offered_one old.floor new.costs (at links k).0 (d + (at links k).1) (omega (arith, may.within k (0, 0) more, is.offered.lower.long))
        (omega (arith, may.so_far, may.short, cheap))));
  }
    where
      split : (v n i : ℕ) → s ≤ v → i < k + 1 → (at links i).0 ≡ v → (at links i).1 ≤ left → d + (at links i).1 ≡ n → (i ≡ k) ⊎ (i ≡ k → ⊥)
          → IsWayUpTo links k s d left v n ⊎ ((v ≡ (at links k).0) × (d + (at links k).1 ≡ n))
      split v n i up low to few equal (inr other) = inl (up, i, omega (arith, low, other), to, few, equal)
      split v n i up low to few equal (inl same) =
          let there : (at links k).0 ≡ v = rw same at to in
          inr (sym there, rw same at equal)

  -- the next link is passed over
  pub next_passed : ((at links k).0 < s) ⊎ (left < (at links k).1) → HasOffered links s d left (k + 1) old new
  next_passed out = record {
    floor = is.floor;
    offered =
        offered_same (IsWayUpTo links k s d left) (IsWayUpTo links (k + 1) s d left) old.floor old.costs new.costs
        (λ v n within (up, i, low, to, cheap, equal). (up, i, omega (arith, low), to, cheap, equal))
        (λ v n within (up, i, low, to, cheap, equal) above. inl (less v n i up low to cheap equal (cases_eq i k) out))
        is.offered;
  }
    where
      less : (v n i : ℕ) → s ≤ v → i < k + 1 → (at links i).0 ≡ v → (at links i).1 ≤ left → d + (at links i).1 ≡ n → (i ≡ k) ⊎ (i ≡ k → ⊥)
          → ((at links k).0 < s) ⊎ (left < (at links k).1) → IsWayUpTo links k s d left v n
      less v n i up low to cheap equal (inr other) any = (up, i, omega (arith, low, other), to, cheap, equal)
      less v n i up low to cheap equal (inl same) (inl below) = let there : (at links k).0 ≡ v = rw same at to in absurd (omega (arith, there, below, up))
      less v n i up low to cheap equal (inl same) (inr dear) = let there : (at links k).1 ≤ left = rw same at cheap in absurd (omega (arith, there, dear))

  -- each of those after it costs more
  cheap_offered : k ≤ length links → ((i : ℕ) → k ≤ i → i < length links → left < (at links i).1)
      → IsOffered (IsWayBy links s d left) old.floor old.costs new.costs
  cheap_offered few dear =
      offered_same (IsWayUpTo links k s d left) (IsWayBy links s d left) old.floor old.costs new.costs
      (λ v n within (up, i, low, to, cheap, equal). (up, (at links i).1, (i, omega (arith, low, few), there v i (omega (arith, low, few)) to), cheap, equal))
      (λ v n within (up, c, (i, low, e), cheap, equal) above. inl
      (back v n c i up low (sym (same_at links i (v, c) (0, 0) low) ∙ e) cheap equal (cases_lt i k)))
      is.offered
    where
      there : (v i : ℕ) → i < length links → (at links i).0 ≡ v → get_or links i (v, (at links i).1) ≡ (v, (at links i).1)
      there v i low to = same_at links i (v, (at links i).1) (0, 0) low ∙ ap (λ (z : ℕ). (z, (at links i).1)) to

      back : (v n c i : ℕ) → s ≤ v → i < length links → at links i ≡ (v, c) → c ≤ left → d + c ≡ n → (i < k) ⊎ (k ≤ i) → IsWayUpTo links k s d left v n
      back v n c i up low e cheap equal (inl less) =
          let to : (at links i).0 ≡ v = ap (λ (p : ℕ × ℕ). p.0) e in
          let cost : (at links i).1 ≡ c = ap (λ (p : ℕ × ℕ). p.1) e in
          (up, i, less, to, omega (arith, cost, cheap), omega (arith, cost, equal))
      back v n c i up low e cheap equal (inr behind) =
          let cost : (at links i).1 ≡ c = ap (λ (p : ℕ × ℕ). p.1) e in
          absurd (omega (arith, dear i behind low, cost, cheap))

  -- all were looked at
  pub all_offered : k ≤ length links → length links ≤ k → IsOffered (IsWayBy links s d left) old.floor old.costs new.costs
  all_offered few whole = cheap_offered few (λ i behind low. absurd (omega (arith, behind, low, whole)))

  -- in ascending cost, all those after one that costs more do so
  pub cheapest_offered : AllPairs (λ (p q : ℕ × ℕ). p.1 ≤ q.1) links → k < length links → left < (at links k).1
      → IsOffered (IsWayBy links s d left) old.floor old.costs new.costs
  cheapest_offered ascending more dear = cheap_offered (omega (arith, more)) (λ i behind low. go i behind low (cases_eq i k))
    where
      go : (i : ℕ) → k ≤ i → i < length links → (i ≡ k) ⊎ (i ≡ k → ⊥) → left < (at links i).1
      go i behind low (inl same) = rw same dear
      go i behind low (inr other) =
          let greater : (at links k).1 ≤ (at links i).1 = ascending k i (0, 0) (omega (arith, behind, other)) low in
          omega (arith, greater, dear)
