-- The frontier of a search: no upward route to anything outside the row costs less than the least way there.
use Rattle.std.proofs.Common.{◌≡◌, ◌<◌, ◌≤◌, ◌+◌, ℕ, inl, inr, List, [], ◌∷◌, ◌++◌, All, length-append, Option, None, Some, refl, sym, ◌∙◌, subst, arith}
use Rattle.std.proofs.lemmas.List.Elements.{All-nil, All-head, All-tail, All-push}
use Rattle.tcc_reads.specs.History.{count}
use Rattle.tcc_graph.specs.Levels.{Judged}
use Rattle.tcc_graph.specs.Links.{link_to, link_cost, cost}
use Rattle.tcc_graph.specs.Routes.{LinksLead, IsUpward, IsUpwardRoute}
use Rattle.tcc_graph.specs.declared.link.Link.{Link}
use Rattle.tcc_derive.specs.Prices.{IsLinkOf}
use Rattle.tcc_core.specs.Rows.{in_row, IsSearchRow}
use Rattle.tcc_core.specs.Frontiers.{HasCome, IsWay}
use Rattle.tcc_graph.proofs.Linking.{cost_cons, cost_append, lead_append}
use Rattle.tcc_graph.proofs.Pairs.{link_below}

-- ---- upward links

-- upward links from a number not below s lead to one not below it
upward_lead : (j : Judged) (s a b : ℕ) (links : List Link) → s ≤ a → LinksLead j a b links → All (IsUpward s) links → s ≤ b
upward_lead j s a b [] from lead up = subst (λ (z : ℕ). s ≤ z) lead from
upward_lead j s a b (l ∷ links) from lead up =
    let first = All-head (IsUpward s) l links up in
    upward_lead j s (link_to l) b links first.1 lead.2 (All-tail (IsUpward s) l links up)

-- an upward route ends at no number below its start
pub upward_end : (j : Judged) (s v : ℕ) (links : List Link) → IsUpwardRoute j s v links → s ≤ v
upward_end j s v links route = upward_lead j s s v links (omega arith) route.0.1 route.1

-- where the search has come to is not below its start
come_upward : (j : Judged) (s : ℕ) (row : List (Option ℕ)) (u c : ℕ) → IsSearchRow j s row → HasCome s row u c → s ≤ u
come_upward j s row u c exact (inl (same, nothing)) = omega (arith, same)
come_upward j s row u c exact (inr inside) =
    let (links, route, costs) = (exact.exact u c inside).attained in
    upward_end j s u links route

-- ---- ways are routes

-- upward links that lead from s to u at this cost, none where u is s and the cost 0
abbrev pub IsPath : Judged → ℕ → ℕ → ℕ → Type 0
IsPath j s u c = (links : List Link) × LinksLead j s u links × All (IsUpward s) links × (cost links ≡ c)

pub path_there : (j : Judged) (s : ℕ) (row : List (Option ℕ)) (u c : ℕ) → IsSearchRow j s row → HasCome s row u c → IsPath j s u c
path_there j s row u c exact (inl (same, nothing)) = ([], sym same, All-nil (IsUpward s), sym nothing)
path_there j s row u c exact (inr inside) =
    let (links, route, costs) = (exact.exact u c inside).attained in
    (links, route.0.1, route.1, costs)

-- an upward route from s to v at this cost
abbrev HasRouteAt : Judged → ℕ → ℕ → ℕ → Type 0
HasRouteAt j s v n = (links : List Link) × IsUpwardRoute j s v links × (cost links ≡ n)

one_more : (j : Judged) (s u v c : ℕ) (l : Link) → s ≤ u → s ≤ v → IsPath j s u c → IsLinkOf j u v l → HasRouteAt j s v (c + link_cost l)
one_more j s u v c l from to (links, lead, up, costs) leads =
    let last : LinksLead j u v (l ∷ []) = (leads.from, leads.link, leads.to) in
    let upward : IsUpward s l = (omega (arith, from, leads.from), omega (arith, to, leads.to)) in (
      links ++ l ∷ [],
      ((rw length-append (omega arith), lead_append j s u v links (l ∷ []) lead last), All-push (IsUpward s) links l up upward),
      omega (arith, cost_append links (l ∷ []), cost_cons l [], costs),
    )

pub route_of_way : (j : Judged) (s : ℕ) (row : List (Option ℕ)) (v n : ℕ) → IsSearchRow j s row → IsWay j s row v n → HasRouteAt j s v n
route_of_way j s row v n exact (to, u, c, l, come, leads, costs) =
    let (links, route, paid) = one_more j s u v c l (come_upward j s row u c exact come) to (path_there j s row u c exact come) leads in
    (links, route, paid ∙ costs)

-- ---- an upward route that ends outside the row costs at least some way on

-- some transaction outside the row has a way there that costs n at most
abbrev pub HasWayWithin : Judged → ℕ → List (Option ℕ) → ℕ → Type 0
HasWayWithin j s row n = (w : ℕ) × (k : ℕ) × (in_row row w ≡ None) × IsWay j s row w k × (k ≤ n)

way_along : (j : Judged) (s : ℕ) (row : List (Option ℕ)) → IsSearchRow j s row → (u c v : ℕ) (l : Link) (links : List Link) → HasCome s row u c
    → LinksLead j u v (l ∷ links) → All (IsUpward s) (l ∷ links) → in_row row v ≡ None → HasWayWithin j s row (c + cost (l ∷ links))
way_along j s row exact u c v l [] come lead up out =
    let first = All-head (IsUpward s) l [] up in
    let to : s ≤ v = subst (λ (z : ℕ). s ≤ z) lead.2 first.1 in
    (v, c + link_cost l, out, (to, u, c, l, come, record { from = lead.0; to = lead.2; link = lead.1 }, refl), omega (arith, cost_cons l []))
way_along j s row exact u c v l (next ∷ links) come lead up out =
    go (in_row row (link_to l)) refl (λ d on. way_along j s row exact (link_to l) d v next links on lead.2 (All-tail (IsUpward s) l (next ∷ links) up) out)
  where
    to : s ≤ link_to l
    to = let first = All-head (IsUpward s) l (next ∷ links) up in first.1

    leads : IsLinkOf j u (link_to l) l
    leads = record { from = lead.0; to = refl; link = lead.1 }

    go : (o : Option ℕ) → in_row row (link_to l) ≡ o → ((d : ℕ) → HasCome s row (link_to l) d → HasWayWithin j s row (d + cost (next ∷ links)))
        → HasWayWithin j s row (c + cost (l ∷ (next ∷ links)))
    go None e rest = (link_to l, c + link_cost l, e, (to, u, c, l, come, leads, refl), omega (arith, cost_cons l (next ∷ links)))
    go (Some d) e rest =
        let (w, k, outside, way, low) = rest d (inr e) in
        let (others, route, paid) = one_more j s u (link_to l) c l (come_upward j s row u c exact come) to (path_there j s row u c exact come) leads in
        let near : d ≤ cost others = (exact.exact (link_to l) d e).least others route in
        (w, k, outside, way, omega (arith, cost_cons l (next ∷ links)))

pub way_within : (j : Judged) (s : ℕ) (row : List (Option ℕ)) → IsSearchRow j s row → (v : ℕ) (links : List Link) → in_row row v ≡ None
    → IsUpwardRoute j s v links → HasWayWithin j s row (cost links)
way_within j s row exact v [] out ((some, lead), up) = absurd (omega arith)
way_within j s row exact v (l ∷ links) out ((some, lead), up) =
    let (w, k, outside, way, low) = way_along j s row exact s 0 v l links (inl (refl, refl)) lead up out in
    (w, k, outside, way, omega arith)

pub way_below : (j : Judged) (s : ℕ) (row : List (Option ℕ)) (v n : ℕ) → IsWay j s row v n → v < count j.history
way_below j s row v n (to, u, c, l, come, leads, costs) =
    let ends = link_below j l leads.link in
    omega (arith, leads.to, ends.1)
