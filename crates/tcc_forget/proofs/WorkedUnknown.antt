-- A late unknown outcome, worked out by hand. Here c/1 is an unknown outcome that writes x and y, a/1 writes x, and b/1 reads that.
-- Session c has left, and a and b know a/1. Then b/2 reads y from c/1 and x from a/1, which is consistent. So c/1 has to keep a/1 from the top of x:
-- with a/1 there and c/1 listed once it was read, b/2 would contradict.
use Rattle.std.proofs.Common.{ℕ, zero, suc, ◌≡◌, ◌<◌, ◌≤◌, ◌⊎◌, inl, inr, List, [], ◌∷◌, None, Some, refl, sym, subst, ◌∙◌, arith}
use Rattle.std.specs.Prelude.{codes}
use Rattle.std.specs.List.{Contains}
use Rattle.tcc_reads.specs.History.{Entry, History, count, initial, owner, place}
use Rattle.tcc_graph.specs.Levels.{causally}
use Rattle.tcc_graph.specs.Links.{IsLink, link_from, link_to}
use Rattle.tcc_graph.specs.Relations.{IsReadsPair, IsSessionPair}
use Rattle.tcc_graph.specs.Routes.{LinksLead}
use Rattle.tcc_graph.specs.declared.step.Step.TheVariants as step
use Rattle.tcc_graph.specs.declared.link.Link.{Link}
use Rattle.tcc_graph.specs.declared.link.Link.TheVariants as link
use Rattle.tcc_graph.proofs.Pairs.{pair_parts}
use Rattle.tcc_graph.proofs.Worked.{x, y, entry}
use Rattle.tcc_forget.specs.Cases.{Forgotten, Initial, IsOutdated, Observes, Passed}
use Rattle.tcc_forget.specs.Covers.{IsCover, IsKnown, IsLastOf, LeadsTo, Readable}
use Rattle.tcc_forget.specs.Sweeps.{MakesTop}

abbrev h : History
h = record {
  sessions = codes "a" ∷ codes "b" ∷ codes "c" ∷ [];
  entries = initial ∷ entry 2 1 (x ∷ y ∷ []) [] ∷ entry 0 1 (x ∷ []) [] ∷ entry 1 1 [] ((x, 2) ∷ []) ∷ [];
}

abbrev live : List ℕ
live = 0 ∷ 1 ∷ []

-- b/2
abbrev e : Entry
e = entry 1 2 [] ((x, 2) ∷ (y, 1) ∷ [])

last_a : IsLastOf h 0 2
last_a = record { some = omega arith; below = omega arith; owned = refl; last = last }
  where
    last : (n : ℕ) → 0 < n → n < count h → owner h n ≡ 0 → place h n ≤ place h 2
    last zero some below same = absurd (omega (arith, some))
    last (suc zero) some below same = omega arith
    last (suc (suc zero)) some below same = omega arith
    last (suc (suc (suc zero))) some below same = omega arith
    last (suc (suc (suc (suc n)))) some below same = absurd (omega (arith, below))

last_b : IsLastOf h 1 3
last_b = record { some = omega arith; below = omega arith; owned = refl; last = last }
  where
    last : (n : ℕ) → 0 < n → n < count h → owner h n ≡ 1 → place h n ≤ place h 3
    last zero some below same = absurd (omega (arith, some))
    last (suc zero) some below same = omega arith
    last (suc (suc zero)) some below same = omega arith
    last (suc (suc (suc zero))) some below same = omega arith
    last (suc (suc (suc (suc n)))) some below same = absurd (omega (arith, below))

-- a and b know a/1
known : IsKnown h live 2
known session (zero, within, is) = (2, subst (λ (s : ℕ). IsLastOf h s 2) is last_a, inl refl)
known session (suc zero, within, is) =
    (3, subst (λ (s : ℕ). IsLastOf h s 3) is last_b, inr (step.Reads 2 3 x ∷ [], (omega arith, (refl, (omega arith, omega arith, (0, omega arith, refl)), refl))))
known session (suc (suc k), within, is) = absurd (omega (arith, within))

observed : Observes h e 1
observed = (step.Reads 1 4 y ∷ [], (omega arith, (refl, (omega arith, omega arith, (0, omega arith, refl)), refl)))

-- with a/1 as the top and c/1 listed the read of x would contradict
abbrev wrong : Readable
wrong = record { listed = 1 ∷ []; top = Some 2 }

would_contradict : IsOutdated h e wrong 2
would_contradict = Passed 1 not_listed (0, omega arith, refl) observed
  where
    not_listed : Contains {X = ℕ} (1 ∷ []) 2 → ⊥
    not_listed (zero, within, is) = absurd (omega (arith, is))
    not_listed (suc k, within, is) = absurd (omega (arith, within))

-- nothing but `init` leads to c/1
into_first : (l : Link) → IsLink (causally h) l → link_to l ≡ 1 → link_from l ≡ 0
into_first (link.Session a b) p is = go a (subst (λ (z : ℕ). IsSessionPair h a z) is p)
  where
    go : (a : ℕ) → IsSessionPair h a 1 → a ≡ 0
    go zero q = refl
    go (suc zero) q = absurd (omega (arith, (pair_parts h 1 1 q).lower (omega arith)))
    go (suc (suc zero)) q = absurd (omega (arith, (pair_parts h 2 1 q).same (omega arith)))
    go (suc (suc (suc zero))) q = absurd (omega (arith, (pair_parts h 3 1 q).same (omega arith)))
    go (suc (suc (suc (suc n)))) q = absurd (omega (arith, (pair_parts h (suc (suc (suc (suc n)))) 1 q).from))
into_first (link.Reads a b k) p is = absurd (go (subst (λ (z : ℕ). IsReadsPair h a z k) is p))
  where
    go : IsReadsPair h a 1 k → ⊥
    go (from, to, (i, within, here)) = absurd (omega (arith, within))
into_first (link.Derived b a k c walk) p is = absurd (go c (subst (λ (z : ℕ). IsReadsPair h z c k) is p.0.1))
  where
    go : (c : ℕ) → IsReadsPair h 1 c k → ⊥
    go zero (from, to, (i, within, here)) = absurd (omega (arith, within))
    go (suc zero) (from, to, (i, within, here)) = absurd (omega (arith, within))
    go (suc (suc zero)) (from, to, (i, within, here)) = absurd (omega (arith, within))
    go (suc (suc (suc zero))) (from, to, (i, within, here)) = absurd (omega (arith, within))
    go (suc (suc (suc (suc n)))) (from, to, there) = absurd (omega (arith, to))

-- and nothing to `init`
into_init : (l : Link) → IsLink (causally h) l → link_to l ≡ 0 → ⊥
into_init (link.Session a b) p is = absurd (omega (arith, (pair_parts h a b p).some, is))
into_init (link.Reads a b k) p is = go (subst (λ (z : ℕ). IsReadsPair h a z k) is p)
  where
    go : IsReadsPair h a 0 k → ⊥
    go (from, to, (i, within, here)) = absurd (omega (arith, within))
into_init (link.Derived b a k c walk) p is = go c (subst (λ (z : ℕ). IsReadsPair h z c k) is p.0.1)
  where
    go : (c : ℕ) → IsReadsPair h 0 c k → ⊥
    go zero (from, to, (i, within, here)) = absurd (omega (arith, within))
    go (suc zero) (from, to, (i, within, here)) = absurd (omega (arith, within))
    go (suc (suc zero)) (from, to, (i, within, here)) = absurd (omega (arith, within))
    go (suc (suc (suc zero))) (from, to, (i, within, here)) = absurd (omega (arith, within))
    go (suc (suc (suc (suc n)))) (from, to, there) = absurd (omega (arith, to))

from_init : (u : ℕ) (links : List Link) → LinksLead (causally h) u 1 links → (u ≡ 1) ⊎ (u ≡ 0)
from_init u [] p = inl p
from_init u (l ∷ links) p = go (from_init (link_to l) links p.2)
  where
    go : (link_to l ≡ 1) ⊎ (link_to l ≡ 0) → (u ≡ 1) ⊎ (u ≡ 0)
    go (inl first) = inr (sym p.0 ∙ into_first l p.1 first)
    go (inr none) = absurd (into_init l p.1 none)

apart : LeadsTo h 2 1 → ⊥
apart (inl same) = absurd (omega (arith, same))
apart (inr (links, (some, p))) = go (from_init 2 links p)
  where
    go : (suc (suc zero) ≡ suc zero) ⊎ (suc (suc zero) ≡ zero) → ⊥
    go (inl is) = absurd (omega (arith, is))
    go (inr is) = absurd (omega (arith, is))

-- so that is no cover
not_a_cover : IsCover h live x wrong → ⊥
not_a_cover is = apart (is.onward 2 1 refl (0, omega arith, refl))

-- with both listed the read of x is as it should be
abbrev right : Readable
right = record { listed = 2 ∷ 1 ∷ []; top = None }

no_contradiction : IsOutdated h e right 2 → ⊥
no_contradiction (Forgotten some neither) = neither (inl (0, omega arith, refl))
no_contradiction (Initial top none is) = absurd (omega (arith, none))
no_contradiction (Passed b unlisted listed sees) = unlisted (0, omega arith, refl)

-- and a/1 isn't made the top
kept_off : (new : Readable) → MakesTop h live right new → ⊥
kept_off new m =
    let one : 2 ≡ m.top = m.only 2 (0, omega arith, refl) in
    let two : 1 ≡ m.top = m.only 1 (1, omega arith, refl) in
    absurd (omega (arith, one, two))
