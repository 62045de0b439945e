-- A certified cycle is a least one: `near` bounds the lengths of walks from below, `far` the
-- costs of routes from its starts upward, and no way back is cheaper than the cycle.
use Rattle.std.proofs.Common.{◌≡◌, ◌<◌, ◌≤◌, ◌+◌, ℕ, ◌⊎◌, inl, inr, List, [], ◌∷◌, length, length-append, arith, refl, sym, subst}
use Rattle.std.specs.Prelude.{flat_map, All}
use Rattle.std.proofs.lemmas.Bool.{cases_lt}
use Rattle.std.proofs.lemmas.List.Elements.{All-head, All-tail}
use Rattle.tcc_reads.specs.History.{History, count}
use Rattle.tcc_graph.specs.Relations.{IsCausalPair}
use Rattle.tcc_graph.specs.Walks.{step_to, Leads}
use Rattle.tcc_graph.specs.Levels.{IsAllowed, IsAllowedWalk, judged}
use Rattle.tcc_graph.specs.declared.level.Level.{Level}
use Rattle.tcc_graph.specs.declared.level.Level.TheVariants as level
use Rattle.tcc_graph.specs.Links.{IsLink, link_from, link_to, unfolding_of, link_cost, cost}
use Rattle.tcc_graph.specs.Routes.{LinksLead, IsRoute, IsUpward, IsUpwardRoute, IsLeastCycle}
use Rattle.tcc_graph.specs.declared.step.Step.{Step}
use Rattle.tcc_graph.specs.declared.step.Step.TheVariants as step
use Rattle.tcc_graph.specs.declared.link.Link.{Link}
use Rattle.tcc_graph.specs.declared.link.Link.TheVariants as link
use Rattle.tcc_cert.specs.declared.version.Version.{Version}
use Rattle.tcc_cert.specs.declared.version.Version.TheVariants as version
use Rattle.tcc_cert.specs.Tables.{entry, lowest, far_entry}
use Rattle.tcc_cert.specs.CycleRules.{ends_at}
use Rattle.tcc_cert.specs.Rules.{CertifiesCycle}
use Rattle.tcc_cert.specs.declared.certificate.CycleClaim.{CycleClaim}
use Rattle.tcc_rules.proofs.RightLinks.{cycle_of_right}
use Rattle.tcc_graph.proofs.Pairs.{step_pair, pair_below, link_below}
use Rattle.tcc_graph.proofs.Upward.{IsTurned, turn_lowest}

not_above : (m n : ℕ) → (n < m → ⊥) → m ≤ n
not_above m n h = go (cases_lt n m)
  where
    go : (n < m) ⊎ (m ≤ n) → m ≤ n
    go (inl l) = absurd (h l)
    go (inr l) = l

-- the lowest number of a row is not above its start
low_start : (v : Version) (s : ℕ) → lowest v s ≤ s
low_start version.One s = omega arith
low_start version.Two s = omega arith

upward_lower : (low s : ℕ) (links : List Link) → low ≤ s → All (IsUpward s) links → All (IsUpward low) links
upward_lower low s links le up k d l = let here = up k d l in (omega (arith, here.0), omega (arith, here.1))

module _ (h : History) (k : CycleClaim) (good : CertifiesCycle h k) where
  near_pair : (a b : ℕ) → IsCausalPair h a b → entry k.near a b ≤ 1
  near_pair a b p = not_above _ _ (λ l. good.near_pairs (a, b) (p, l))

  near_step : k.level ≡ level.Causal → (a b c : ℕ) → a < count h → IsCausalPair h b c → entry k.near a c ≤ entry k.near a b + 1
  near_step causal a b c from p = not_above _ _ (λ l. good.near_steps (a, c) (causal, (from, (b, p, l))))

  near_along : k.level ≡ level.Causal → (a b c : ℕ) (walk : List Step) → a < count h → Leads h b c walk → entry k.near a c ≤ entry k.near a b + length walk
  near_along causal a b c [] from w = rw w (omega arith)
  near_along causal a b c (s ∷ walk) from w =
      let one = near_step causal a b (step_to s) from (subst (λ (z : ℕ). IsCausalPair h z (step_to s)) w.0 (step_pair h s w.1)) in
      omega (arith, one, near_along causal a (step_to s) c walk from w.2)

  -- at `Atomic` a walk is one pair, and the rule on pairs is enough
  near_rest : (l : Level) → k.level ≡ l → (a b c : ℕ) (s : Step) (walk : List Step) → a < count h → Leads h b c walk → IsAllowed l (s ∷ walk)
      → entry k.near a c ≤ entry k.near a b + length walk
  near_rest level.Causal is a b c s walk from w allowed = near_along is a b c walk from w
  near_rest level.Atomic is a b c s [] from w allowed = rw w (omega arith)
  near_rest level.Atomic is a b c s (t ∷ walk) from w allowed = absurd (omega (arith, allowed))

  near_walk : (b c : ℕ) (walk : List Step) → IsAllowedWalk (judged h k.level) b c walk → entry k.near b c ≤ length walk
  near_walk b c [] w = absurd (omega (arith, w.0.0))
  near_walk b c (s ∷ walk) w =
      let pair = subst (λ (z : ℕ). IsCausalPair h z (step_to s)) w.0.1.0 (step_pair h s w.0.1.1) in
      omega (arith, near_pair b (step_to s) pair, near_rest k.level refl b (step_to s) c s walk (pair_below h b (step_to s) pair).0 w.0.1.2 w.1)

  -- one link has at most its cost
  far_link : (l : Link) → IsLink (judged h k.level) l → lowest k.version (link_from l) ≤ link_to l
      → far_entry k.version k.far (link_from l) (link_to l) ≤ link_cost l
  far_link (link.Session a b) p low = not_above _ _ (λ m. good.far_links (a, b) (low, inl (inl p, m)))
  far_link (link.Reads a b x) p low = not_above _ _ (λ m. good.far_links (a, b) (low, inl (inr (x, p), m)))
  far_link (link.Derived b a x c walk) p low =
      let most : far_entry k.version k.far b a ≤ 1 + entry k.near b c = not_above _ _ (λ m. good.far_links (b, a) (low, inr (x, c, p.0, m))) in
      omega (arith, most, near_walk b c walk p.1, length-append walk (step.Reads a c x ∷ []))

  far_step : (s : ℕ) (l : Link) → s < count h → IsLink (judged h k.level) l → IsUpward (lowest k.version s) l
      → far_entry k.version k.far s (link_to l) ≤ far_entry k.version k.far s (link_from l) + link_cost l
  far_step s (link.Session a b) from p up = not_above _ _ (λ m. good.far_steps (s, b) (from, (up.1, (a, up.0, inl (inl p, m)))))
  far_step s (link.Reads a b x) from p up = not_above _ _ (λ m. good.far_steps (s, b) (from, (up.1, (a, up.0, inl (inr (x, p), m)))))
  far_step s (link.Derived b a x c walk) from p up =
      let most : far_entry k.version k.far s a ≤ far_entry k.version k.far s b + 1 + entry k.near b c =
      not_above _ _ (λ m. good.far_steps (s, a) (from, (up.1, (b, up.0, inr (x, c, p.0, m))))) in
      omega (arith, most, near_walk b c walk p.1, length-append walk (step.Reads a c x ∷ []))

  far_along : (s u v : ℕ) (links : List Link) → s < count h → LinksLead (judged h k.level) u v links → All (IsUpward (lowest k.version s)) links
      → far_entry k.version k.far s v ≤ far_entry k.version k.far s u + cost links
  far_along s u v [] from w up = rw w (omega arith)
  far_along s u v (l ∷ links) from w up =
      let first = All-head (IsUpward (lowest k.version s)) l links up in
      let later = All-tail (IsUpward (lowest k.version s)) l links up in
      let one : far_entry k.version k.far s (link_to l) ≤ far_entry k.version k.far s u + link_cost l =
      subst (λ (z : ℕ). far_entry k.version k.far s (link_to l) ≤ far_entry k.version k.far s z + link_cost l) w.0 (far_step s l from w.1 first) in
      omega (arith, one, far_along s (link_to l) v links from w.2 later, length-append (unfolding_of l) (flat_map unfolding_of links))

  -- a route over numbers from its start upward
  far_route : (s v : ℕ) (links : List Link) → IsUpwardRoute (judged h k.level) s v links → far_entry k.version k.far s v ≤ cost links
  far_route s v [] w = absurd (omega (arith, w.0.0))
  far_route s v (l ∷ links) w =
      let up = upward_lower (lowest k.version s) s (l ∷ links) (low_start k.version s) w.1 in
      let later = All-tail (IsUpward (lowest k.version s)) l links up in
      let first : lowest k.version (link_from l) ≤ link_to l =
      subst (λ (z : ℕ). lowest k.version z ≤ link_to l) (sym w.0.1.0) (All-head (IsUpward (lowest k.version s)) l links up).1 in
      let one : far_entry k.version k.far s (link_to l) ≤ link_cost l =
      subst (λ (z : ℕ). far_entry k.version k.far z (link_to l) ≤ link_cost l) w.0.1.0 (far_link l w.0.1.1 first) in
      let from : s < count h = subst (λ (z : ℕ). z < count h) w.0.1.0 (link_below (judged h k.level) l w.0.1.1).0 in
      omega (arith, one, far_along s (link_to l) v links from w.0.1.2 later, length-append (unfolding_of l) (flat_map unfolding_of links))

  route_from : (s v : ℕ) (links : List Link) → IsRoute (judged h k.level) s v links → s < count h
  route_from s v [] w = absurd (omega (arith, w.0))
  route_from s v (l ∷ links) w = subst (λ (z : ℕ). z < count h) w.1.0 (link_below (judged h k.level) l w.1.1).0

  -- a cycle, begun at its lowest number, is such a route
  no_less : (s : ℕ) (links : List Link) → IsTurned (judged h k.level) s links → k.least ≤ cost links
  no_less s links w =
      let back : k.least ≤ far_entry k.version k.far w.lowest w.lowest =
      not_above _ _ (λ m. good.returns (w.lowest, w.lowest) (route_from w.lowest w.lowest w.turned w.route.0, (refl, m))) in
      omega (arith, back, far_route w.lowest w.lowest w.turned w.route, w.costs)

  pub least_cycle : ((s : ℕ) × IsLeastCycle (judged h k.level) s k.links) × (cost k.links ≡ k.least)
  least_cycle = (
    (
      ends_at 0 k.links,
      record {
        cycle = cycle_of_right (judged h k.level) k.least k.links good.cycle;
        least = λ t others w. omega (arith, no_less t others (turn_lowest (judged h k.level) t others w), good.cycle.costs);
      },
    ),
    good.cycle.costs,
  )
