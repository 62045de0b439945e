-- The certificate of a least cycle keeps the rules: walks and routes, put together, are no shorter than the distances.
use Rattle.std.proofs.Common.{ℕ, ◌≡◌, ◌<◌, ◌≤◌, ◌+◌, ◌-◌, ◌⊎◌, inl, inr, List, [], ◌∷◌, ◌++◌, length, All, Some, get_or, refl, sym, ◌∙◌, ap, subst, arith}
use Rattle.std.proofs.lemmas.List.{get_or_default}
use Rattle.std.proofs.lemmas.List.Elements.{All-nil, All-cons, All-append}
use Rattle.tcc_reads.specs.History.{History, count}
use Rattle.tcc_graph.specs.Levels.{Judged, IsAllowed, IsAllowedWalk}
use Rattle.tcc_graph.specs.Links.{MayContradict, IsLink, link_from, link_to, link_cost, cost}
use Rattle.tcc_graph.specs.Routes.{IsUpward, IsUpwardRoute, IsLeastCycle}
use Rattle.tcc_graph.specs.declared.level.Level.{Level}
use Rattle.tcc_graph.specs.declared.level.Level.TheVariants.{Causal, Atomic}
use Rattle.tcc_graph.specs.declared.step.Step.{Step}
use Rattle.tcc_graph.specs.declared.link.Link.{Link}
use Rattle.tcc_graph.specs.declared.link.Link.TheVariants as link
use Rattle.tcc_graph.proofs.Pairs.{pair_below}
use Rattle.tcc_graph.proofs.Walking.{pair_walk, walk_on}
use Rattle.tcc_graph.proofs.Linking.{derived_cost, one_cost, pair_link, link_route, route_on}
use Rattle.tcc_core.specs.Shares.{IsCappedDistance}
use Rattle.tcc_cert.specs.Tables.{row_of, entry, far_entry, HasSize, HasFarSize, IsCapped}
use Rattle.tcc_cert.specs.CycleRules.{BreaksNearPair, BreaksNearStep, BreaksFarLink, BreaksFarStep}
use Rattle.tcc_cert.specs.CycleRules.{BreaksReturn}
use Rattle.tcc_cert.specs.Rules.{HoldsEverywhere, CertifiesCycle}
use Rattle.tcc_cert.specs.declared.version.Version.TheVariants.{Two}
use Rattle.tcc_cert.proofs.OwnLinks.{cycle_right, links_within}
use Rattle.tcc_explain.specs.Certificates.{IsCappedShortest, IsNearTable, IsFarTable}

-- ---- what is allowed

single_allowed : (level : Level) (walk : List Step) → length walk ≡ 1 → IsAllowed level walk
single_allowed Causal walk single = tt
single_allowed Atomic walk single = single

any_allowed : (level : Level) (walk : List Step) → level ≡ Causal → IsAllowed level walk
any_allowed level walk causal = subst (λ (l : Level). IsAllowed l walk) (sym causal) tt

one_upward : (s : ℕ) (l : Link) → s ≤ link_from l → s ≤ link_to l → All (IsUpward s) (l ∷ [])
one_upward s l from to = All-cons (IsUpward s) l [] (from, to) (All-nil (IsUpward s))

-- ---- numbers of the tables

shortest_low : (j : Judged) (cap a c n : ℕ) (walk : List Step) → IsCappedShortest j cap a c n → IsAllowedWalk j a c walk → n ≤ length walk
shortest_low j cap a c n walk (inl (low, shortest)) is = shortest.least walk is
shortest_low j cap a c n walk (inr (same, far)) is = omega (arith, far walk is)

shortest_capped : (j : Judged) (cap a c n : ℕ) → IsCappedShortest j cap a c n → n ≤ cap
shortest_capped j cap a c n (inl (low, shortest)) = omega arith
shortest_capped j cap a c n (inr (same, far)) = omega arith

distance_low : (j : Judged) (cap s v n : ℕ) (links : List Link) → IsCappedDistance j s v (Some cap) (Some n) → IsUpwardRoute j s v links → n ≤ cost links
distance_low j cap s v n links (inl (low, distance)) route = distance.least links route
distance_low j cap s v n links (inr (same, far)) route = omega (arith, far links route)

distance_capped : (j : Judged) (cap s v n : ℕ) → IsCappedDistance j s v (Some cap) (Some n) → n ≤ cap
distance_capped j cap s v n (inl (low, distance)) = omega arith
distance_capped j cap s v n (inr (same, far)) = omega arith

-- a number of a row of the table, at whatever default
number_at : (table : List (List ℕ)) (s k d e : ℕ) (r : List ℕ) → s < length table → k < length (get_or table s r)
    → get_or (row_of table s) k d ≡ get_or (get_or table s r) k e
number_at table s k d e r here there = ap (λ (row : List ℕ). get_or row k d) (get_or_default table s [] r here) ∙ get_or_default (get_or table s r) k d e there

-- a table whose entries are at most the cap
pub capped_table : (n columns cap : ℕ) (table : List (List ℕ)) → HasSize n columns table → ((a c : ℕ) → a < n → c < columns → entry table a c ≤ cap)
    → IsCapped cap table
capped_table n columns cap table size low = λ a d l. λ c e k.
    let wide : length (get_or table a d) ≡ columns = size.wide a d l in
    let at : entry table a c ≡ get_or (get_or table a d) c e = number_at table a c 0 e d l k in
    let most : entry table a c ≤ cap = low a c (omega (arith, size.long)) (omega arith) in
    omega arith

-- a table of rows from their number upward, whose entries are at most the cap
capped_far : (n cap : ℕ) (far : List (List ℕ)) → HasFarSize Two n far → ((s v : ℕ) → s ≤ v → v < n → far_entry Two far s v ≤ cap) → IsCapped cap far
capped_far n cap far size low = λ s r l. λ k e m.
    let wide : length (row_of far s) ≡ n - s = size.wide s (omega (arith, size.long)) in
    let row : row_of far s ≡ get_or far s r = get_or_default far s [] r l in
    let long : length (row_of far s) ≡ length (get_or far s r) = ap length row in
    let at : get_or (row_of far s) k 0 ≡ get_or (get_or far s r) k e = number_at far s k 0 e r l m in
    let same : s + k - s ≡ k = omega arith in
    let most : get_or (row_of far s) k 0 ≤ cap = subst (λ (p : ℕ). get_or (row_of far s) p 0 ≤ cap) same (low s (s + k) (omega arith) (omega arith)) in
    omega arith

-- ---- the rules

module _ (j : Judged) (s : ℕ) (links : List Link) (near far : List (List ℕ)) (least : IsLeastCycle j s links) (walks : IsNearTable j (cost links) near)
    (routes : IsFarTable j (cost links) far) where
  abbrev n : ℕ
  n = count j.history

  near_low : (a c : ℕ) (walk : List Step) → a < n → c < n → IsAllowedWalk j a c walk → entry near a c ≤ length walk
  near_low a c walk from to is = shortest_low j (cost links) a c (entry near a c) walk (walks.exact a c from to) is

  near_capped : (a c : ℕ) → a < n → c < n → entry near a c ≤ cost links
  near_capped a c from to = shortest_capped j (cost links) a c (entry near a c) (walks.exact a c from to)

  far_low : (u v : ℕ) (others : List Link) → u ≤ v → v < n → IsUpwardRoute j u v others → far_entry Two far u v ≤ cost others
  far_low u v others up to is = distance_low j (cost links) u v (far_entry Two far u v) others (routes.exact u v up to) is

  far_capped : (u v : ℕ) → u ≤ v → v < n → far_entry Two far u v ≤ cost links
  far_capped u v up to = distance_capped j (cost links) u v (far_entry Two far u v) (routes.exact u v up to)

  near_pairs : HoldsEverywhere (BreaksNearPair j.history near)
  near_pairs at (p, more) =
      let (walk, is, single) = pair_walk j.history at.0 at.1 p in
      let ends = pair_below j.history at.0 at.1 p in
      omega (arith, near_low at.0 at.1 walk ends.0 ends.1 (is, single_allowed j.level walk single))

  near_steps : HoldsEverywhere (BreaksNearStep j.history j.level near)
  near_steps at (causal, (from, (b, p, more))) =
      let ends = pair_below j.history b at.1 p in
      go (walks.exact at.0 b from ends.0)
    where
      go : IsCappedShortest j (cost links) at.0 b (entry near at.0 b) → ⊥
      go (inl (low, shortest)) =
          let (walk, is, exact) = shortest.attained in
          let (longer, on, long) = walk_on j.history at.0 b at.1 walk is.0 p in
          omega (arith, near_low at.0 at.1 longer from (pair_below j.history b at.1 p).1 (on, any_allowed j.level longer causal))
      go (inr (same, none)) = omega (arith, near_capped at.0 at.1 from (pair_below j.history b at.1 p).1)

  -- a derived link, where its walk is known; the cap is no less
  abbrev IsPriced : ℕ → ℕ → ℕ → Type 0
  IsPriced b a c = (cost links ≤ entry near b c) ⊎ ((l : Link) × (link_from l ≡ b) × (link_to l ≡ a) × IsLink j l × (link_cost l ≡ 1 + entry near b c))

  derived_link : (b a : ℕ) (x : List ℕ) (c : ℕ) → MayContradict j.history b a x c → IsPriced b a c
  derived_link b a x c may = go (walks.exact b c may.2.0 may.1.1)
    where
      go : IsCappedShortest j (cost links) b c (entry near b c) → IsPriced b a c
      go (inl (low, shortest)) =
          let (walk, is, exact) = shortest.attained in
          inr (link.Derived b a x c walk, refl, refl, (may, is), omega (arith, derived_cost b a x c walk))
      go (inr (same, none)) = inl (omega arith)

  far_link : (u v : ℕ) (l : Link) → u ≤ v → v < n → link_from l ≡ u → link_to l ≡ v → IsLink j l → far_entry Two far u v ≤ link_cost l
  far_link u v l up to begins ends is =
      let route : IsUpwardRoute j u v (l ∷ []) = (link_route j u v l begins ends is, one_upward u l (omega (arith, begins)) (omega (arith, ends))) in
      omega (arith, far_low u v (l ∷ []) up to route, one_cost l)

  far_links : HoldsEverywhere (BreaksFarLink j.history Two near far)
  far_links at (up, inl (p, more)) =
      let (l, from, to, is, single) = pair_link j at.0 at.1 p in
      omega (arith, far_link at.0 at.1 l up (pair_below j.history at.0 at.1 p).1 from to is)
  far_links at (up, inr (x, c, may, more)) = go (derived_link at.0 at.1 x c may)
    where
      go : IsPriced at.0 at.1 c → ⊥
      go (inl high) = omega (arith, far_capped at.0 at.1 up may.1.0)
      go (inr (l, from, to, is, costs)) = omega (arith, far_link at.0 at.1 l up may.1.0 from to is)

  -- a route to u and a link on
  far_on : (t u v : ℕ) (l : Link) → t ≤ u → u < n → t ≤ v → v < n → link_from l ≡ u → link_to l ≡ v → IsLink j l
      → far_entry Two far t v ≤ far_entry Two far t u + link_cost l
  far_on t u v l low from up to begins ends is = go (routes.exact t u low from)
    where
      go : IsCappedDistance j t u (Some (cost links)) (Some (far_entry Two far t u)) → far_entry Two far t v ≤ far_entry Two far t u + link_cost l
      go (inl (less, distance)) =
          let (others, route, exact) = distance.attained in
          let (longer, costs) = route_on j t u v others l route.0 begins ends is in
          let upward : All (IsUpward t) (others ++ l ∷ []) =
          All-append (IsUpward t) others (l ∷ []) route.1 (one_upward t l (omega (arith, begins)) (omega (arith, ends))) in
          omega (arith, far_low t v (others ++ l ∷ []) up to (longer, upward))
      go (inr (same, none)) = omega (arith, far_capped t v up to)

  far_steps : HoldsEverywhere (BreaksFarStep j.history Two near far)
  far_steps at (start, (up, (u, low, inl (p, more)))) =
      let (l, from, to, is, single) = pair_link j u at.1 p in
      let ends = pair_below j.history u at.1 p in
      omega (arith, far_on at.0 u at.1 l low ends.0 up ends.1 from to is)
  far_steps at (start, (up, (u, low, inr (x, c, may, more)))) = go (derived_link u at.1 x c may)
    where
      go : IsPriced u at.1 c → ⊥
      go (inl high) = omega (arith, far_capped at.0 at.1 up may.1.0)
      go (inr (l, from, to, is, costs)) = omega (arith, far_on at.0 u at.1 l low may.2.0 up may.1.0 from to is)

  returns : HoldsEverywhere (BreaksReturn j.history Two (cost links) far)
  returns at (start, (same, less)) = go (routes.exact at.0 at.0 (omega arith) start)
    where
      go : IsCappedDistance j at.0 at.0 (Some (cost links)) (Some (far_entry Two far at.0 at.0)) → ⊥
      go (inl (low, distance)) =
          let (others, cycle, exact) = distance.attained in
          let most : cost links ≤ cost others = least.least at.0 others cycle.0 in
          omega arith
      go (inr (equal, none)) = omega arith

  pub certified : CertifiesCycle j.history (record { version = Two; level = j.level; links = links; least = cost links; near = near; far = far })
  certified = record {
    sizes = record {
      near = walks.size;
      far = routes.size;
      links = links_within j s s links least.cycle.1;
      near_capped = capped_table n n (cost links) near walks.size near_capped;
      far_capped = capped_far n (cost links) far routes.size far_capped;
    };
    cycle = record { some = least.cycle.0; right = cycle_right j s links least.cycle; costs = refl };
    near_pairs = near_pairs;
    near_steps = near_steps;
    far_links = far_links;
    far_steps = far_steps;
    returns = returns;
  }
