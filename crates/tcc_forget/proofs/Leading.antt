-- Routes, with that of no link.
use Rattle.std.proofs.Common.{ℕ, ◌≡◌, ◌<◌, inl, inr, List, [], ◌∷◌, refl, sym, subst, arith}
use Rattle.tcc_reads.specs.History.{Entry, History, count}
use Rattle.tcc_graph.specs.Levels.{causally}
use Rattle.tcc_graph.specs.Routes.{HasCycle}
use Rattle.tcc_graph.specs.Relations.{IsReadsPair}
use Rattle.tcc_graph.specs.Keys.{IsWriter}
use Rattle.tcc_graph.specs.Walks.{IsReached, IsStep, Leads, step_from, step_to}
use Rattle.tcc_graph.specs.declared.step.Step.{Step}
use Rattle.tcc_graph.specs.declared.step.Step.TheVariants as step
use Rattle.tcc_graph.specs.declared.link.Link.TheVariants as link
use Rattle.tcc_graph.specs.declared.level.Level.TheVariants as level
use Rattle.tcc_graph.proofs.Pairs.{initial_pair}
use Rattle.tcc_watch.specs.Delivered.{with_last}
use Rattle.tcc_watch.specs.private.Rows.{IsRouted}
use Rattle.tcc_watch.proofs.Arrived.{routed_stays}
use Rattle.tcc_watch.proofs.NoCycle.{routed_join, routed_link}
use Rattle.tcc_forget.specs.Covers.{LeadsTo}

module _ (h : History) where
  step_routed : (s : Step) → IsStep h s → IsRouted (causally h) (step_from s) (step_to s)
  step_routed (step.Session a b) p = routed_link (causally h) (link.Session a b) p
  step_routed (step.Reads a b x) p = routed_link (causally h) (link.Reads a b x) p

  pub leads_join : (u v w : ℕ) → LeadsTo h u v → LeadsTo h v w → LeadsTo h u w
  leads_join u v w (inl same) q = subst (λ (z : ℕ). LeadsTo h z w) (sym same) q
  leads_join u v w (inr p) (inl same) = inr (subst (λ (z : ℕ). IsRouted (causally h) u z) same p)
  leads_join u v w (inr p) (inr q) = inr (routed_join (causally h) u v w p q)

  pub routed_on : (u v w : ℕ) → IsRouted (causally h) u v → LeadsTo h v w → IsRouted (causally h) u w
  routed_on u v w p (inl same) = subst (λ (z : ℕ). IsRouted (causally h) u z) same p
  routed_on u v w p (inr q) = routed_join (causally h) u v w p q

  pub apart_routed : (u v : ℕ) → LeadsTo h u v → (u ≡ v → ⊥) → IsRouted (causally h) u v
  apart_routed u v (inl same) apart = absurd (apart same)
  apart_routed u v (inr p) apart = p

  pub around : (u v : ℕ) → IsRouted (causally h) u v → LeadsTo h v u → HasCycle (causally h)
  around u v p q = let w = routed_on u v u p q in (u, w.0, w.1)

  -- `init` leads to all others
  pub initial_leads : (v : ℕ) → 0 < v → v < count h → IsRouted (causally h) 0 v
  initial_leads v some below = routed_link (causally h) (link.Session 0 v) (initial_pair h 0 v refl (omega (arith, some, below)) some below)

  -- the derived link of a reader and a writer that it has observed
  pub derived_link : (b a c : ℕ) (x : List ℕ) → (b ≡ a → ⊥) → IsReadsPair h a c x → IsWriter h b x → IsReached h b c → IsRouted (causally h) b a
  derived_link b a c x apart read writer (walk, is) = routed_link (causally h) (link.Derived b a x c walk) ((apart, read, writer), (is, tt))

-- what reaches another leads to it
walk_leads : (h : History) (a b : ℕ) (steps : List Step) → Leads h a b steps → LeadsTo h a b
walk_leads h a b [] p = inl p
walk_leads h a b (s ∷ steps) p =
    let one : IsRouted (causally h) (step_from s) (step_to s) = step_routed h s p.1 in
    subst (λ (z : ℕ). LeadsTo h z b) p.0 (inr (routed_on h (step_from s) (step_to s) b one (walk_leads h (step_to s) b steps p.2)))

pub reached_leads : (h : History) (a b : ℕ) → IsReached h a b → IsRouted (causally h) a b
reached_leads h a b ([], (some, p)) = absurd (omega (arith, some))
reached_leads h a b (s ∷ steps, (some, p)) =
    subst (λ (z : ℕ). IsRouted (causally h) z b) p.0
    (routed_on h (step_from s) (step_to s) b (step_routed h s p.1) (walk_leads h (step_to s) b steps p.2))

pub leads_stay : (h : History) (e : Entry) (u v : ℕ) → LeadsTo h u v → LeadsTo (with_last h e) u v
leads_stay h e u v (inl same) = inl same
leads_stay h e u v (inr p) = inr (routed_stays h e level.Causal u v p)
