-- The links of a cycle of a resolved snapshot, and the cut by them.
use Rattle.std.proofs.Common.{ℕ, zero, suc, ◌≡◌, ◌<◌, ◌⊎◌, inl, inr, List, [], ◌∷◌, length, map, subst, arith}
use Rattle.std.specs.Prelude.{Contains, slice_index}
use Rattle.std.proofs.lemmas.List.Elements.{Contains-append_cases}
use Rattle.tcc_txn.proofs.Lists.{from_map}
use Rattle.tcc_reads.specs.History.{count}
use Rattle.tcc_graph.specs.Levels.{Judged}
use Rattle.tcc_graph.specs.Links.{IsLink, link_to, unfolding_of}
use Rattle.tcc_graph.specs.Routes.{AreCycle, LinksLead}
use Rattle.tcc_graph.specs.Walks.{IsStep, Leads, step_from, step_to}
use Rattle.tcc_graph.specs.declared.link.Link.{Link}
use Rattle.tcc_graph.specs.declared.link.Link.TheVariants as link
use Rattle.tcc_graph.specs.declared.step.Step.{Step}
use Rattle.tcc_graph.specs.declared.step.Step.TheVariants as step
use Rattle.tcc_graph.proofs.Pairs.{pair_parts}
use Rattle.tcc_slices.specs.Needs.{HasStep, IsMet}
use Rattle.tcc_slices.specs.private.Cutting.{AreMetBy}
use Rattle.tcc_slices.specs.private.Needing.{AreNeeds, IsNeedOf}
use Rattle.tcc_slices.specs.declared.needs.Need.{Need}
use Rattle.tcc_slices.proofs.Needing.{met_by}

module _ (j : Judged) (links : List Link) where
  lead_links : (a b : ℕ) (some : List Link) → LinksLead j a b some → (l : Link) → Contains some l → IsLink j l
  lead_links a b [] led l (k, inside, e) = absurd (omega (arith, inside))
  lead_links a b (one ∷ some) led l (zero, inside, e) = subst (IsLink j) e led.1
  lead_links a b (one ∷ some) led l (suc k, inside, e) = lead_links (link_to one) b some led.2 l (k, omega (arith, inside), e)

  pub each_link : AreCycle j links → (l : Link) → Contains links l → IsLink j l
  each_link (start, (some, led)) l has = lead_links start start links led l has

  walk_step : (a b : ℕ) (walk : List Step) → Leads j.history a b walk → (t : Step) → Contains walk t → IsStep j.history t
  walk_step a b [] led t (k, inside, e) = absurd (omega (arith, inside))
  walk_step a b (s ∷ walk) led t (zero, inside, e) = subst (IsStep j.history) e led.1
  walk_step a b (s ∷ walk) led t (suc k, inside, e) = walk_step (step_to s) b walk led.2 t (k, omega (arith, inside), e)

  link_step : (l : Link) → IsLink j l → (t : Step) → Contains (unfolding_of l) t → IsStep j.history t
  link_step (link.Session a b) is t (zero, inside, e) = subst (IsStep j.history) e is
  link_step (link.Session a b) is t (suc k, inside, e) = absurd (omega (arith, inside))
  link_step (link.Reads a b x) is t (zero, inside, e) = subst (IsStep j.history) e is
  link_step (link.Reads a b x) is t (suc k, inside, e) = absurd (omega (arith, inside))
  link_step (link.Derived b a x c walk) is t has = go (Contains-append_cases walk (step.Reads a c x ∷ []) t has)
    where
      go : Contains walk t ⊎ Contains (step.Reads a c x ∷ []) t → IsStep j.history t
      go (inl on) = walk_step b c walk is.1.0.1 t on
      go (inr (zero, inside, e)) = subst (IsStep j.history) e is.0.1
      go (inr (suc k, inside, e)) = absurd (omega (arith, inside))

  pub each_step : AreCycle j links → (t : Step) → HasStep links t → IsStep j.history t
  each_step cycle t (l, has, on) = link_step l (each_link cycle l has) t on

  step_below : (t : Step) → IsStep j.history t → (step_from t < count j.history) × (step_to t < count j.history)
  step_below (step.Session a b) is = let w = pair_parts j.history a b is in (w.from, w.to)
  step_below (step.Reads a b x) is = (is.0, is.1)

  met_below : AreCycle j links → (n : ℕ) → IsMet links n → n < count j.history
  met_below cycle n (inl (t, has, inl from)) = subst (λ (z : ℕ). z < count j.history) from (step_below t (each_step cycle t has)).0
  met_below cycle n (inl (t, has, inr to)) = subst (λ (z : ℕ). z < count j.history) to (step_below t (each_step cycle t has)).1
  met_below cycle n (inr (x, a, c, walk, has)) = (each_link cycle (link.Derived n a x c walk) has).0.2.0

  pub met_numbers : AreCycle j links → (needs : List (ℕ × Need)) (numbers : List ℕ) → AreNeeds links needs
      → ((k : ℕ) → 0 < k → k < length numbers → Contains (map (λ one. one.0) needs) (slice_index numbers k)) → AreMetBy j.history links numbers
  met_numbers cycle needs numbers theirs only k some inside = (met, met_below cycle (slice_index numbers k) met)
    where
      w : (one : ℕ × Need) × Contains needs one × (one.0 ≡ slice_index numbers k)
      w = from_map (λ (one : ℕ × Need). one.0) needs (slice_index numbers k) (only k some inside)

      needed : IsNeedOf links w.0.0 w.0.1
      needed = subst (λ (z : ℕ × Need). IsNeedOf links z.0 z.1) w.1.2 (theirs w.1.0 w.0 w.1.1)

      met : IsMet links (slice_index numbers k)
      met = subst (IsMet links) w.2 (met_by links w.0.0 w.0.1 needed)
