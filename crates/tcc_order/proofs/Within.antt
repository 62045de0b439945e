-- Joined pairs, by a finite search: from a to b by pairs whose numbers between are all below a bound.
use Rattle.std.proofs.Common.{◌≡◌, ◌<◌, ℕ, zero, suc, Bool, true, ◌||◌, ◌&&◌, ◌⊎◌, inl, inr, arith}
use Rattle.std.proofs.lemmas.Bool.{or_cases, and_parts, and_from, or_left, or_right, cases_eq}

-- from a to b by pairs whose numbers between are all below k
pub within : (ℕ → ℕ → Bool) → ℕ → ℕ → ℕ → Bool
within e zero a b = e a b
within e (suc k) a b = within e k a b || (within e k a k && within e k k b)

-- what was joined stays joined
within_one_more : (e : ℕ → ℕ → Bool) (k a b : ℕ) → within e k a b ≡ true → within e (suc k) a b ≡ true
unfolding within
within_one_more e k a b h = or_left _ _ h

within_through : (e : ℕ → ℕ → Bool) (k a b : ℕ) → within e k a k ≡ true → within e k k b ≡ true → within e (suc k) a b ≡ true
unfolding within
within_through e k a b g h = or_right _ _ (and_from _ _ g h)

pub within_pair : (e : ℕ → ℕ → Bool) (k a b : ℕ) → e a b ≡ true → within e k a b ≡ true
unfolding within
within_pair e zero a b h = h
within_pair e (suc k) a b h = or_left _ _ (within_pair e k a b h)

-- the two ways to be within one more
abbrev Ways : (ℕ → ℕ → Bool) → ℕ → ℕ → ℕ → Type 0
Ways e k a b = (within e k a b ≡ true) ⊎ ((within e k a k ≡ true) × (within e k k b ≡ true))

ways : (e : ℕ → ℕ → Bool) (k a b : ℕ) → within e (suc k) a b ≡ true → Ways e k a b
unfolding within
ways e k a b h = elim (or_cases (within e k a b) (within e k a k && within e k k b) h) [ inl p ↦ inl p | inr q ↦ inr (and_parts _ _ q) ]

to_middle : (e : ℕ → ℕ → Bool) (k a : ℕ) → Ways e k a k → within e k a k ≡ true
to_middle e k a (inl p) = p
to_middle e k a (inr p) = p.0

from_middle : (e : ℕ → ℕ → Bool) (k b : ℕ) → Ways e k k b → within e k k b ≡ true
from_middle e k b (inl p) = p
from_middle e k b (inr p) = p.1

join_ways : (e : ℕ → ℕ → Bool) (k a m b : ℕ) → ((x y : ℕ) → within e k x m ≡ true → within e k m y ≡ true → within e k x y ≡ true) → Ways e k a m
    → Ways e k m b → within e (suc k) a b ≡ true
join_ways e k a m b join (inl p) (inl q) = within_one_more e k a b (join a b p q)
join_ways e k a m b join (inl p) (inr q) = within_through e k a b (join a k p q.0) q.1
join_ways e k a m b join (inr p) (inl q) = within_through e k a b p.0 (join k b p.1 q)
join_ways e k a m b join (inr p) (inr q) = within_through e k a b p.0 q.1

pub within_join : (e : ℕ → ℕ → Bool) (k a m b : ℕ) → m < k → within e k a m ≡ true → within e k m b ≡ true → within e k a b ≡ true
within_join e zero a m b l p q = absurd (omega arith)
within_join e (suc k) a m b l p q = go (λ h x y. within_join e k x m y h) (cases_eq m k)
  where
    go : (m < k → (x y : ℕ) → within e k x m ≡ true → within e k m y ≡ true → within e k x y ≡ true) → (m ≡ k) ⊎ (m ≡ k → ⊥) → within e (suc k) a b ≡ true
    go join (inl same) = within_through e k a b (to_middle e k a (ways e k a k (rw same at p))) (from_middle e k b (ways e k k b (rw same at q)))
    go join (inr apart) = join_ways e k a m b (join (omega arith)) (ways e k a m p) (ways e k m b q)

-- a relation that has each pair, and joins two that meet, has what is joined
pub within_sound : (e : ℕ → ℕ → Bool) (R : ℕ → ℕ → Type 0) → ((a b : ℕ) → e a b ≡ true → R a b) → ((a m b : ℕ) → R a m → R m b → R a b) → (k a b : ℕ)
    → within e k a b ≡ true → R a b
unfolding within
within_sound e R one join zero a b h = one a b h
within_sound e R one join (suc k) a b h = go (λ x y. within_sound e R one join k x y) (ways e k a b h)
  where
    go : ((x y : ℕ) → within e k x y ≡ true → R x y) → Ways e k a b → R a b
    go sound (inl p) = sound a b p
    go sound (inr p) = join a k b (sound a k p.0) (sound k b p.1)
