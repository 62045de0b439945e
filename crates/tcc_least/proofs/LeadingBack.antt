-- If all pairs rise, each cycle has a derived link that doesn't; and what a cycle through `init` costs.
use Rattle.std.proofs.Common.{ℕ, zero, suc, ◌+◌, ◌<◌, ◌≤◌, ◌≡◌, ◌⊎◌, inl, inr, List, [], ◌∷◌, length, refl, subst, arith}
use Rattle.std.specs.List.{Contains}
use Rattle.std.proofs.lemmas.Bool.{cases_lt}
use Rattle.tcc_reads.specs.History.{count}
use Rattle.tcc_graph.specs.Relations.{IsCausalPair}
use Rattle.tcc_graph.specs.Levels.{Judged}
use Rattle.tcc_graph.specs.Links.{IsReason, IsLink, link_from, link_to, link_cost, cost}
use Rattle.tcc_graph.specs.Routes.{LinksLead, IsCycle}
use Rattle.tcc_graph.specs.declared.link.Link.{Link}
use Rattle.tcc_graph.specs.declared.link.Link.TheVariants as link
use Rattle.tcc_graph.proofs.Pairs.{initial_pair}
use Rattle.tcc_graph.proofs.Linking.{cost_cons, some_cost, derived_cost, one_cost}
use Rattle.tcc_least.specs.LeadingBack.{Rises, HasLinkBack, NoneIntoInit, HasReasonAgainstInit}

later : {X : Type 0} (x y : X) (xs : List X) → Contains xs y → Contains (x ∷ xs) y
later x y xs (k, within, here) = (suc k, omega (arith, within), here)

module _ (j : Judged) (rank : ℕ → ℕ) (rises : Rises j.history rank) where
  rises_or_back : (l : Link) (links : List Link) → IsLink j l → (rank (link_from l) < rank (link_to l)) ⊎ HasLinkBack rank (l ∷ links)
  rises_or_back (link.Session a b) links is = inl (rises a b (inl is))
  rises_or_back (link.Reads a b x) links is = inl (rises a b (inr (x, is)))
  rises_or_back (link.Derived b a x c walk) links is = go (cases_lt (rank b) (rank a))
    where
      go : (rank b < rank a) ⊎ (rank a ≤ rank b) → (rank b < rank a) ⊎ HasLinkBack rank (link.Derived b a x c walk ∷ links)
      go (inl up) = inl up
      go (inr down) = inr (b, a, x, c, walk, (0, omega arith, refl), down)

  behind : (l : Link) (links : List Link) → HasLinkBack rank links → HasLinkBack rank (l ∷ links)
  behind l links (b, a, x, c, walk, there, back) = (b, a, x, c, walk, later l (link.Derived b a x c walk) links there, back)

  -- links rise, each by at least one, or one of them leads back
  lead_up : (a b : ℕ) (links : List Link) → LinksLead j a b links → (rank a + length links ≤ rank b) ⊎ HasLinkBack rank links
  lead_up a b [] same = inl (subst (λ (z : ℕ). rank a + 0 ≤ rank z) same (omega arith))
  lead_up a b (l ∷ links) (from, is, rest) = go (rises_or_back l links is) (lead_up (link_to l) b links rest)
    where
      go : (rank (link_from l) < rank (link_to l)) ⊎ HasLinkBack rank (l ∷ links) → (rank (link_to l) + length links ≤ rank b) ⊎ HasLinkBack rank links
          → (rank a + length (l ∷ links) ≤ rank b) ⊎ HasLinkBack rank (l ∷ links)
      go (inr back) q = inr back
      go (inl up) (inr back) = inr (behind l links back)
      go (inl up) (inl more) = inl (subst (λ (z : ℕ). rank z + length (l ∷ links) ≤ rank b) from (omega (arith, up, more)))

  pub link_back : (s : ℕ) (links : List Link) → IsCycle j s links → HasLinkBack rank links
  link_back s links (some, lead) = go (lead_up s s links lead)
    where
      go : (rank s + length links ≤ rank s) ⊎ HasLinkBack rank links → HasLinkBack rank links
      go (inl up) = absurd (omega (arith, up, some))
      go (inr back) = back

module _ (j : Judged) (none : NoneIntoInit j.history) where
  -- a link into `init` is a derived one
  into_init : (l : Link) (n : ℕ) → IsLink j l → link_to l ≡ 0 → link_cost l ≤ n + 1 → HasReasonAgainstInit j n
  into_init (link.Session a b) n is same few = absurd (none a (subst (λ (z : ℕ). IsCausalPair j.history a z) same (inl is)))
  into_init (link.Reads a b x) n is same few = absurd (none a (subst (λ (z : ℕ). IsCausalPair j.history a z) same (inr (x, is))))
  into_init (link.Derived b a x c walk) n is same few =
      (b, x, c, walk, subst (λ (z : ℕ). IsReason j b z x c walk) same is, omega (arith, few, derived_cost b a x c walk))

  last_into : (a n : ℕ) (links : List Link) → 0 < a → LinksLead j a 0 links → cost links ≤ n + 1 → HasReasonAgainstInit j n
  last_into a n [] some same few = absurd (omega (arith, same, some))
  last_into a n (l ∷ links) some (from, is, rest) few =
      go (λ more. last_into (link_to l) n links more rest (omega (arith, few, cost_cons l links))) (cases_lt 0 (link_to l))
    where
      go : (0 < link_to l → HasReasonAgainstInit j n) → (0 < link_to l) ⊎ (link_to l ≤ 0) → HasReasonAgainstInit j n
      go on (inl more) = on more
      go on (inr none) = into_init l n is (omega (arith, none)) (omega (arith, few, cost_cons l links))

  -- a cycle from `init` has a reason against `init`, whose walk is at least two steps shorter than the cycle
  pub init_reason : (n : ℕ) (links : List Link) → IsCycle j 0 links → cost links ≤ n + 2 → HasReasonAgainstInit j n
  init_reason n [] (some, lead) few = absurd (omega (arith, some))
  init_reason n (l ∷ links) (some, (from, is, rest)) few = go (cases_lt 0 (link_to l))
    where
      itself : (l : Link) → IsLink j l → link_from l ≡ 0 → link_to l ≡ 0 → ⊥
      itself (link.Session a b) is from to = none a (subst (λ (z : ℕ). IsCausalPair j.history a z) to (inl is))
      itself (link.Reads a b x) is from to = none a (subst (λ (z : ℕ). IsCausalPair j.history a z) to (inr (x, is)))
      itself (link.Derived b a x c walk) is from to = is.0.0 (cc)

      go : (0 < link_to l) ⊎ (link_to l ≤ 0) → HasReasonAgainstInit j n
      go (inl more) = last_into (link_to l) n links more rest (omega (arith, few, cost_cons l links, some_cost l))
      go (inr low) = absurd (itself l is from (omega (arith, low)))

  -- and such a reason makes a cycle from `init`
  pub reason_init : (n : ℕ) → 0 < count j.history → HasReasonAgainstInit j n → (links : List Link) × IsCycle j 0 links × (cost links ≤ n + 2)
  reason_init n there (b, x, c, walk, reason, few) =
      let derived : Link = link.Derived b 0 x c walk in (
        link.Session 0 b ∷ derived ∷ [],
        (omega arith, (refl, initial_pair j.history 0 b refl there (positive b reason.0.0) reason.0.2.0, (refl, reason, refl))),
        omega (arith, few, cost_cons (link.Session 0 b) (derived ∷ []), one_cost derived, derived_cost b 0 x c walk),
      )
    where
      positive : (b : ℕ) → (b ≡ 0 → ⊥) → 0 < b
      positive zero other = absurd (other refl)
      positive (suc b) other = omega arith
