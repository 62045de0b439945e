-- Writers ascend by number, so a binary search finds the last one up to what a clock holds of a session.
use Rattle.std.proofs.Common.{◌≡◌, ◌≢◌, ◌<◌, ◌≤◌, ◌+◌, ◌-◌, ◌⊎◌, inl, inr, ℕ, true, false, List, [], ◌∷◌, length, get_or, set, slice_index, refl, ◌∙◌, subst, arith}
use Rattle.std.specs.List.{All, Contains}
use Rattle.std.specs.List.Sorted.{IsNonDecreasing, IsPartitionPoint}
use Rattle.std.specs.Prelude.{nat_le}
use Rattle.std.proofs.lemmas.Bool.{cases_lt, cases_eq, leb-true, leb-false}
use Rattle.std.proofs.lemmas.List.{get_or_default, get_or-set_same, get_or-set_other}
use Rattle.tcc_reads.specs.History.{History, IsBySession}
use Rattle.tcc_clocks.specs.Clocks.{IsBefore, IsOneOf, AreOwners, AreLatestOf}
use Rattle.tcc_order.specs.private.CausalLinks.{IsLiftable, IsLifted, IsLastUpTo, IsLastBut, AreOrdered, IsClock}

pub owners_ordered : (h : History) → IsBySession h.entries → (owners : List ℕ) → AreOwners h owners → AreOrdered owners
owners_ordered h numbered owners known m n some less below =
    omega (
      arith,
      (numbered m n less (omega (arith, below, known.long))).0,
      known.each m some (omega (arith, less, below, known.long)),
      known.each n (omega (arith, some, less)) (omega (arith, below, known.long)),
    )

pub latest_clock : (h : History) (owners : List ℕ) → AreOwners h owners → (c from : ℕ) (clock : List ℕ) → AreLatestOf h (IsBefore h c) from clock
    → IsClock owners from clock
latest_clock h owners known c from clock are k l = go (are.each k (omega (arith, l, are.wide))).attained
  where
    go : (slice_index clock k ≡ 0) ⊎ IsOneOf h (IsBefore h c) (from + k) (slice_index clock k)
        → (slice_index clock k ≡ 0) ⊎ ((slice_index clock k < length owners) × (slice_index owners (slice_index clock k) ≡ from + k))
    go (inl none) = inl none
    go (inr one) = inr (omega (arith, one.below, known.long), known.each (slice_index clock k) one.committed one.below ∙ one.owned)

-- ---- the last up to a number
module _ (xs : List ℕ) (rising : IsNonDecreasing xs) (top end : ℕ) (within : end ≤ length xs)
    (point : IsPartitionPoint (λ b. nat_le b top ≡ true) (λ b. nat_le b top ≡ false) xs end) where
  index_of : (b : ℕ) → Contains xs b → b ≤ top → (k : ℕ) × (k < end) × (get_or xs k 0 ≡ b)
  index_of b (k, l, e) up = (k, go (cases_lt k end), at)
    where
      at : get_or xs k 0 ≡ b
      at = get_or_default xs k 0 b l ∙ e

      go : (k < end) ⊎ (end ≤ k) → k < end
      go (inl less) = less
      go (inr more) = absurd (omega (arith, leb-false (get_or xs k 0) top (point.1 k 0 more l), at, up))

  pub last_none : end ≡ 0 → IsLastUpTo xs top 0
  last_none none = record { attained = inl refl; greatest = λ b in_xs up. let w = index_of b in_xs up in absurd (omega (arith, w.1, none)) }

  pub last_there : 0 < end → IsLastUpTo xs top (get_or xs (end - 1) 0)
  last_there some = record {
    attained = inr (
      (end - 1, omega (arith, some, within), get_or_default xs (end - 1) (get_or xs (end - 1) 0) 0 (omega (arith, some, within))),
      leb-true (get_or xs (end - 1) 0) top (point.0 (end - 1) 0 (omega (arith, some, within)) (omega (arith, some))),
    );
    greatest = λ b in_xs up. let w = index_of b in_xs up in
        omega (arith, w.2, rising w.0 (end - 1) 0 (omega (arith, w.1)) (omega (arith, some, within)));
  }

-- ---- and other than a
pub but_other : (xs : List ℕ) (top a last : ℕ) → IsLastUpTo xs top last → (last ≡ a → 0 < a → ⊥) → IsLastBut xs top a last
but_other xs top a last is other = record { attained = go is.attained (cases_eq last a); greatest = λ b there apart up. is.greatest b there up }
  where
    go : (last ≡ 0) ⊎ (Contains xs last × (last ≤ top)) → (last ≡ a) ⊎ (last ≢ a) → (last ≡ 0) ⊎ (Contains xs last × (last ≢ a) × (last ≤ top))
    go (inl none) kind = inl none
    go (inr w) (inr far) = inr (w.0, far, w.1)
    go (inr w) (inl same) = by (cases_eq last 0)
      where
        by : (last ≡ 0) ⊎ (last ≢ 0) → (last ≡ 0) ⊎ (Contains xs last × (last ≢ a) × (last ≤ top))
        by (inl zeroth) = inl zeroth
        by (inr some) = absurd (other same (omega (arith, same, some)))

pub but_lower : (xs : List ℕ) (top a last lower : ℕ) → IsLastUpTo xs top last → last ≡ a → 0 < a → IsLastUpTo xs (a - 1) lower → IsLastBut xs top a lower
but_lower xs top a last lower is same some under = record {
  attained = go under.attained is.attained;
  greatest = λ b there apart up. under.greatest b there (omega (arith, is.greatest b there up, same, apart));
}
  where
    go : (lower ≡ 0) ⊎ (Contains xs lower × (lower ≤ a - 1)) → (last ≡ 0) ⊎ (Contains xs last × (last ≤ top))
        → (lower ≡ 0) ⊎ (Contains xs lower × (lower ≢ a) × (lower ≤ top))
    go (inl none) kind = inl none
    go (inr w) (inl none) = absurd (omega (arith, none, same, some))
    go (inr w) (inr v) = inr (w.0, (λ e. absurd (omega (arith, w.1, e, some))), omega (arith, w.1, v.1, same))

-- ---- the number of a session
pub lifted_low : (owners : List ℕ) (session top : ℕ) (ws : List ℕ) (a number : ℕ) → top ≤ number → IsLifted owners session (top ∷ []) ws a 0 number number
lifted_low owners session top ws a number low = record { attained = inl refl; kept = omega arith; greatest = λ b w. omega (arith, w.4, low) }

module _ (owners : List ℕ) (ordered : AreOrdered owners) (session top : ℕ) (ws : List ℕ) (inside : All (λ b. b < length owners) ws) (a number last : ℕ)
    (is : IsLastBut ws top a last) (over : number < top) (at : (top ≡ 0) ⊎ ((top < length owners) × (slice_index owners top ≡ session))) where
  pub lifted_last : number < last → slice_index owners last ≡ session → IsLifted owners session (top ∷ []) ws a 0 number last
  lifted_last more mine = record {
    attained = inr (go is.attained);
    kept = omega (arith, more);
    greatest = λ b w. is.greatest b w.2 w.1 w.4;
  }
    where
      go : (last ≡ 0) ⊎ (Contains ws last × (last ≢ a) × (last ≤ top)) → IsLiftable owners session (top ∷ []) ws a 0 last
      go (inl none) = absurd (omega (arith, more, none))
      go (inr w) = (omega (arith, more), w.1, w.0, omega (arith, mine), w.2)

  -- if the last is of another session, none of this one is there
  pub lifted_none_else : (number < last → slice_index owners last ≡ session → ⊥) → IsLifted owners session (top ∷ []) ws a 0 number number
  lifted_none_else never = record { attained = inl refl; kept = omega arith; greatest = λ b w. go b w (cases_lt number last) }
    where
      go : (b : ℕ) → IsLiftable owners session (top ∷ []) ws a 0 b → (number < last) ⊎ (last ≤ number) → b ≤ number
      go b w (inr low) = omega (arith, is.greatest b w.2 w.1 w.4, low)
      go b w (inl more) = absurd (never more (omega (arith, up, down)))
        where
          upto : b ≤ last
          upto = is.greatest b w.2 w.1 w.4

          below_top : (last ≡ 0) ⊎ (Contains ws last × (last ≢ a) × (last ≤ top)) → last ≤ top
          below_top (inl none) = omega (arith, none)
          below_top (inr v) = v.2

          tops : (top ≡ 0) ⊎ ((top < length owners) × (slice_index owners top ≡ session)) → (top < length owners) × (slice_index owners top ≡ session)
          tops (inl none) = absurd (omega (arith, none, over))
          tops (inr v) = v

          down : session ≤ slice_index owners last
          down = from (cases_eq b last)
            where
              from : (b ≡ last) ⊎ (b ≢ last) → session ≤ slice_index owners last
              from (inl same) = omega (arith, w.3, subst (λ (z : ℕ). slice_index owners b ≡ slice_index owners z) same refl)
              from (inr far) =
                  omega (arith, w.3, ordered b last w.0 (omega (arith, upto, far)) (omega (arith, below_top is.attained, (tops at).0)))

          up : slice_index owners last ≤ session
          up = from (cases_eq last top)
            where
              from : (last ≡ top) ⊎ (last ≢ top) → slice_index owners last ≤ session
              from (inl same) = omega (arith, (tops at).1, subst (λ (z : ℕ). slice_index owners last ≡ slice_index owners z) same refl)
              from (inr far) =
                  omega (arith, (tops at).1, ordered last top (omega (arith, more)) (omega (arith, below_top is.attained, far)) (tops at).0)

pub lifted_at : (owners : List ℕ) (from k : ℕ) (clock ws : List ℕ) (a old new session top : ℕ) → session ≡ from + k → top ≡ slice_index clock k
    → IsLifted owners session (top ∷ []) ws a 0 old new → IsLifted owners from clock ws a k old new
lifted_at owners from k clock ws a old new session top here at is = record {
  attained = go is.attained;
  kept = is.kept;
  greatest = λ b w. is.greatest b (w.0, w.1, w.2, omega (arith, w.3, here), omega (arith, w.4, at));
}
  where
    go : (new ≡ old) ⊎ IsLiftable owners session (top ∷ []) ws a 0 new → (new ≡ old) ⊎ IsLiftable owners from clock ws a k new
    go (inl same) = inl same
    go (inr w) = inr (w.0, w.1, w.2, omega (arith, w.3, here), omega (arith, w.4, at))

-- ---- one more session
module _ {owners : List ℕ} {from : ℕ} {clock ws : List ℕ} {a : ℕ} (old mid : List ℕ) {n v : ℕ} (inside : n < length mid)
    (before : (k : ℕ) → k < n → IsLifted owners from clock ws a k (slice_index old k) (slice_index mid k))
    (after : (k : ℕ) → n ≤ k → slice_index mid k ≡ slice_index old k)
    (here : IsLifted owners (from + n) (slice_index clock n ∷ []) ws a 0 (slice_index mid n) v) where
  pub session_lifted : (k : ℕ) → k < n + 1 → IsLifted owners from clock ws a k (slice_index old k) (slice_index (set mid n v) k)
  session_lifted k l = go (cases_eq k n)
    where
      now : IsLifted owners from clock ws a n (slice_index old n) v
      now = lifted_at owners from n clock ws a (slice_index old n) v (from + n) (slice_index clock n) refl refl
          (subst (λ (z : ℕ). IsLifted owners (from + n) (slice_index clock n ∷ []) ws a 0 z v) (after n (omega arith)) here)

      go : (k ≡ n) ⊎ (k ≢ n) → IsLifted owners from clock ws a k (slice_index old k) (slice_index (set mid n v) k)
      go (inl same) = rw (same, get_or-set_same mid n v 0 inside) now
      go (inr other) = rw (get_or-set_other mid n k v 0 other) (before k (omega arith))

  pub session_after : (k : ℕ) → n + 1 ≤ k → slice_index (set mid n v) k ≡ slice_index old k
  session_after k l = let other : k ≢ n = omega arith in get_or-set_other mid n k v 0 other ∙ after k (omega arith)
