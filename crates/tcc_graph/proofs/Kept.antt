-- What a map of numbers keeps of a history: its pairs, walks, reasons, links and cycles, at each level.
use Rattle.std.proofs.Common.{ℕ, zero, suc, ◌≡◌, ◌<◌, ◌==◌, ◌⊎◌, inl, inr, true, List, [], ◌∷◌, length, map, All, refl, sym, ap, subst, ◌∙◌, arith}
use Rattle.std.proofs.lemmas.List.{length-map}
use Rattle.std.proofs.lemmas.Bool.{or_cases, or_left, or_right, eq-eqb, eqb-true}
use Rattle.std.proofs.lemmas.List.Elements.{All-nil, All-cons, All-head, All-tail}
use Rattle.tcc_reads.specs.History.{History, count, entry_at}
use Rattle.tcc_graph.specs.Relations.{IsSessionPair, IsReadsPair}
use Rattle.tcc_graph.specs.Keys.{has_name, IsWriter}
use Rattle.tcc_graph.specs.Walks.{step_from, step_to, IsStep, Leads, IsWalk}
use Rattle.tcc_graph.specs.Levels.{Judged, IsAllowed, judged}
use Rattle.tcc_graph.specs.Links.{IsReason, IsLink, link_from, link_to, link_cost, cost}
use Rattle.tcc_graph.specs.Routes.{LinksLead, IsCycle}
use Rattle.tcc_graph.specs.declared.level.Level.{Level}
use Rattle.tcc_graph.specs.declared.level.Level.TheVariants as level
use Rattle.tcc_graph.specs.declared.step.Step.{Step}
use Rattle.tcc_graph.specs.declared.step.Step.TheVariants as step
use Rattle.tcc_graph.specs.declared.link.Link.{Link}
use Rattle.tcc_graph.specs.declared.link.Link.TheVariants as link
use Rattle.tcc_graph.proofs.Linking.{derived_cost, cost_cons}
use Rattle.tcc_graph.proofs.Pairs.{initial_pair, pair_parts}
use Rattle.tcc_graph.specs.Renumbered.{LeadOn, link_by, step_by}

-- the numbers of h are mapped to numbers of k that have what they have
pub record IsKept (h : History) (k : History) (f : ℕ → ℕ) : Type 0 where
  pub first : f 0 ≡ 0
  pub some : (n : ℕ) → 0 < n → n < count h → 0 < f n
  pub below : (n : ℕ) → n < count h → f n < count k
  pub once : (a : ℕ) (b : ℕ) → a < count h → b < count h → f a ≡ f b → a ≡ b
  pub session : (a : ℕ) (b : ℕ) → 0 < a → IsSessionPair h a b → IsSessionPair k (f a) (f b)
  pub written : (n : ℕ) (x : List ℕ) → 0 < n → n < count h → has_name (entry_at h n).writes x ≡ true → has_name (entry_at k (f n)).writes x ≡ true
  pub read : (a : ℕ) (b : ℕ) (x : List ℕ) → IsReadsPair h a b x → IsReadsPair k (f a) (f b) x

-- ---- steps and links in other numbers

module _ (f : ℕ → ℕ) where
  pub from_step : (s : Step) → step_from (step_by f s) ≡ f (step_from s)
  from_step (step.Session a b) = refl
  from_step (step.Reads a b x) = refl

  pub to_step : (s : Step) → step_to (step_by f s) ≡ f (step_to s)
  to_step (step.Session a b) = refl
  to_step (step.Reads a b x) = refl

  pub allowed_by : (l : Level) (walk : List Step) → IsAllowed l walk → IsAllowed l (map (step_by f) walk)
  allowed_by level.Causal walk is = tt
  allowed_by level.Atomic walk is = length-map walk (step_by f) ∙ is

  from_link : (l : Link) → link_from (link_by f l) ≡ f (link_from l)
  from_link (link.Session a b) = refl
  from_link (link.Reads a b x) = refl
  from_link (link.Derived b a x c walk) = refl

  to_link : (l : Link) → link_to (link_by f l) ≡ f (link_to l)
  to_link (link.Session a b) = refl
  to_link (link.Reads a b x) = refl
  to_link (link.Derived b a x c walk) = refl

  pub moved_cost : (l : Link) → link_cost (link_by f l) ≡ link_cost l
  moved_cost (link.Session a b) = refl
  moved_cost (link.Reads a b x) = refl
  moved_cost (link.Derived b a x c walk) =
      omega (arith, derived_cost (f b) (f a) x (f c) (map (step_by f) walk), derived_cost b a x c walk, length-map walk (step_by f))

  pub moved_costs : (links : List Link) → cost (map (link_by f) links) ≡ cost links
  moved_costs [] = refl
  moved_costs (l ∷ links) =
      omega (arith, cost_cons (link_by f l) (map (link_by f) links), cost_cons l links, moved_cost l, moved_costs links)

  -- if each of them is a link, the mapped links lead on as the links do
  lead_by : (j : Judged) (a b : ℕ) (links : List Link) → LeadOn a b links → All (IsLink j) (map (link_by f) links)
      → LinksLead j (f a) (f b) (map (link_by f) links)
  lead_by j a b [] p all = ap f p
  lead_by j a b (l ∷ links) p all = (
    from_link l ∙ ap f p.0,
    All-head (IsLink j) (link_by f l) (map (link_by f) links) all,
    subst (λ (z : ℕ). LinksLead j z (f b) (map (link_by f) links)) (sym (to_link l))
        (lead_by j (link_to l) b links p.1 (All-tail (IsLink j) (link_by f l) (map (link_by f) links) all)),
  )

  pub cycle_by : (j : Judged) (s : ℕ) (links : List Link) → 0 < length links → LeadOn s s links → All (IsLink j) (map (link_by f) links)
      → IsCycle j (f s) (map (link_by f) links) × (cost (map (link_by f) links) ≡ cost links)
  cycle_by j s links some lead all = ((omega (arith, length-map links (link_by f)), lead_by j s s links lead all), moved_costs links)

-- if the numbers stay, so does the link
same_step : (s : Step) → step_by (λ n. n) s ≡ s
same_step (step.Session a b) = refl
same_step (step.Reads a b x) = refl

same_steps : (walk : List Step) → map (step_by (λ n. n)) walk ≡ walk
same_steps [] = refl
same_steps (s ∷ walk) = rw (same_step s, same_steps walk) refl

pub same_link : (l : Link) → link_by (λ n. n) l ≡ l
same_link (link.Session a b) = refl
same_link (link.Reads a b x) = refl
same_link (link.Derived b a x c walk) = ap (link.Derived b a x c) (same_steps walk)

-- links that lead from a to b do so by their numbers
pub leads_on : (j : Judged) (a b : ℕ) (links : List Link) → LinksLead j a b links → LeadOn a b links
leads_on j a b [] p = p
leads_on j a b (l ∷ links) p = (p.0, leads_on j (link_to l) b links p.2)

module _ (h k : History) (f : ℕ → ℕ) (kept : IsKept h k f) where
  -- ---- pairs

  pub kept_session : (a b : ℕ) → IsSessionPair h a b → IsSessionPair k (f a) (f b)
  kept_session zero b p =
      let w = pair_parts h 0 b p in
      initial_pair k (f 0) (f b) kept.first (kept.below 0 w.from) (kept.some b w.some w.to) (kept.below b w.to)
  kept_session (suc i) b p = kept.session (suc i) b (omega arith) p

  pub kept_writer : (b : ℕ) (x : List ℕ) → IsWriter h b x → IsWriter k (f b) x
  kept_writer zero x w = (kept.below 0 w.0, or_left _ _ (eq-eqb (f 0) 0 kept.first))
  kept_writer (suc i) x w = (
    kept.below (suc i) w.0,
    or_right _ _
        (kept.written (suc i) x (omega arith) w.0 (go (or_cases (suc i == 0) (has_name (entry_at h (suc i)).writes x) w.1))),
  )
    where
      go : ((suc i == 0) ≡ true) ⊎ (has_name (entry_at h (suc i)).writes x ≡ true) → has_name (entry_at h (suc i)).writes x ≡ true
      go (inl first) = let none : suc i ≡ 0 = eqb-true (suc i) 0 first in absurd (omega arith)
      go (inr here) = here

  -- ---- steps and walks

  pub kept_step : (s : Step) → IsStep h s → IsStep k (step_by f s)
  kept_step (step.Session a b) p = kept_session a b p
  kept_step (step.Reads a b x) p = kept.read a b x p

  pub kept_leads : (a b : ℕ) (steps : List Step) → Leads h a b steps → Leads k (f a) (f b) (map (step_by f) steps)
  kept_leads a b [] p = ap f p
  kept_leads a b (s ∷ steps) p = (
    from_step f s ∙ ap f p.0,
    kept_step s p.1,
    subst (λ (z : ℕ). Leads k z (f b) (map (step_by f) steps)) (sym (to_step f s)) (kept_leads (step_to s) b steps p.2),
  )

  pub kept_walk : (a b : ℕ) (walk : List Step) → IsWalk h a b walk → IsWalk k (f a) (f b) (map (step_by f) walk)
  kept_walk a b walk w = (omega (arith, length-map walk (step_by f), w.0), kept_leads a b walk w.1)

  -- ---- reasons and links

  pub kept_reason : (l : Level) (b a : ℕ) (x : List ℕ) (c : ℕ) (walk : List Step) → IsReason (judged h l) b a x c walk
      → IsReason (judged k l) (f b) (f a) x (f c) (map (step_by f) walk)
  kept_reason l b a x c walk is = (
    (λ same. is.0.0 (kept.once b a is.0.2.0 is.0.1.0 same), kept.read a c x is.0.1, kept_writer b x is.0.2),
    (kept_walk b c walk is.1.0, allowed_by f l walk is.1.1),
  )

  pub kept_link : (v : Level) (l : Link) → IsLink (judged h v) l → IsLink (judged k v) (link_by f l)
  kept_link v (link.Session a b) is = kept_session a b is
  kept_link v (link.Reads a b x) is = kept.read a b x is
  kept_link v (link.Derived b a x c walk) is = kept_reason v b a x c walk is

  -- ---- routes and cycles

  -- links that lead from a to b are mapped to links of k
  pub all_kept : (v : Level) (a b : ℕ) (links : List Link) → LinksLead (judged h v) a b links
      → All (IsLink (judged k v)) (map (link_by f) links)
  all_kept v a b [] p = All-nil (IsLink (judged k v))
  all_kept v a b (l ∷ links) p =
      All-cons (IsLink (judged k v)) (link_by f l) (map (link_by f) links) (kept_link v l p.1) (all_kept v (link_to l) b links p.2)
