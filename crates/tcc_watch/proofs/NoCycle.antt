-- Where rows that are an order have the ends of each link in order, there is no cycle; where a link leads back, there is one.
use Rattle.std.proofs.Common.{ℕ, ◌≡◌, ◌<◌, ◌⊎◌, inl, inr, List, [], ◌∷◌, ◌++◌, length-append, refl, sym, subst, arith}
use Rattle.tcc_reads.specs.History.{count}
use Rattle.tcc_graph.specs.Levels.{Judged}
use Rattle.tcc_graph.specs.Links.{IsLink, link_from, link_to}
use Rattle.tcc_graph.specs.Routes.{LinksLead, HasCycle}
use Rattle.tcc_graph.specs.declared.link.Link.{Link}
use Rattle.tcc_graph.proofs.Linking.{lead_append, link_route}
use Rattle.tcc_graph.proofs.Pairs.{link_below}
use Rattle.tcc_watch.specs.Delivered.{IsDelivered}
use Rattle.tcc_watch.specs.private.Rows.{IsUpTo, AreOrdered, IsRouted, OrdersLinks, AreSound}
use Rattle.tcc_watch.proofs.Rising.{ends_apart}

pub routed_join : (j : Judged) (u v w : ℕ) → IsRouted j u v → IsRouted j v w → IsRouted j u w
routed_join j u v w p q = (p.0 ++ q.0, (omega (arith, p.1.0, length-append p.0 q.0), lead_append j u v w p.0 q.0 p.1.1 q.1.1))

pub routed_link : (j : Judged) (l : Link) → IsLink j l → IsRouted j (link_from l) (link_to l)
routed_link j l is = (l ∷ [], link_route j (link_from l) (link_to l) l refl refl is)

module _ (j : Judged) (rows : List (List ℕ)) (ordered : AreOrdered j.history rows) (links : OrdersLinks j rows) where
  pub along : (a b : ℕ) (route : List Link) → a < count j.history → b < count j.history → LinksLead j a b route → IsUpTo j.history rows a b
  along a b [] at_a at_b p = subst (λ (z : ℕ). IsUpTo j.history rows a z) p (ordered.itself a at_a)
  along a b (l ∷ route) at_a at_b p =
      let ends = link_below j l p.1 in
      ordered.joined a (link_to l) b at_a ends.1 at_b (subst (λ (z : ℕ). IsUpTo j.history rows z (link_to l)) p.0 (links l p.1))
      (along (link_to l) b route ends.1 at_b p.2)

  pub no_cycle : IsDelivered j.history → HasCycle j → ⊥
  no_cycle delivered (s, [], (some, p)) = absurd (omega (arith, some))
  no_cycle delivered (s, l ∷ route, (some, p)) =
      let ends = link_below j l p.1 in
      let at_s : s < count j.history = subst (λ (z : ℕ). z < count j.history) p.0 ends.0 in
      let back : IsUpTo j.history rows (link_to l) (link_from l)
      = subst (λ (z : ℕ). IsUpTo j.history rows (link_to l) z) (sym p.0) (along (link_to l) s route ends.1 at_s p.2) in
      ends_apart j delivered l p.1 (ordered.apart (link_from l) (link_to l) ends.0 ends.1 (links l p.1) back)

-- a link that leads to where a route to its start begins closes a cycle
pub closes : (j : Judged) (rows : List (List ℕ)) → AreSound j.history (IsRouted j) rows → IsDelivered j.history → (l : Link) → IsLink j l
    → IsUpTo j.history rows (link_to l) (link_from l) → HasCycle j
closes j rows sound delivered l is back = go (sound (link_to l) (link_from l) ends.1 ends.0 back)
  where
    ends : (link_from l < count j.history) × (link_to l < count j.history)
    ends = link_below j l is

    go : (link_to l ≡ link_from l) ⊎ IsRouted j (link_to l) (link_from l) → HasCycle j
    go (inl same) = absurd (ends_apart j delivered l is (sym same))
    go (inr route) = let w = routed_join j (link_to l) (link_from l) (link_to l) route (routed_link j l is) in (link_to l, w.0, w.1)
