-- What the table of costs says of links.
use Rattle.std.proofs.Common.{◌≡◌, ◌<◌, ◌≤◌, ◌+◌, ℕ, Option, None, Some, refl, subst, arith}
use Rattle.tcc_reads.specs.History.{count}
use Rattle.tcc_graph.specs.Levels.{Judged}
use Rattle.tcc_graph.specs.Links.{IsReason, link_cost}
use Rattle.tcc_graph.specs.declared.link.Link.{Link}
use Rattle.tcc_graph.specs.declared.link.Link.TheVariants as link
use Rattle.tcc_graph.proofs.Linking.{some_cost}
use Rattle.tcc_derive.specs.Prices.{Tables, cost_at, price_at, IsLinkOf, IsCost, IsPrice, IsDerived, IsPricesOf}
use Rattle.tcc_derive.proofs.CostLemmas.{link_of}

module _ (j : Judged) (t : Tables) (u v : ℕ) (priced : IsPricesOf j t) (from : u < count j.history) (to : v < count j.history) where
  pub cost_of_link : (l : Link) → IsLinkOf j u v l → (c : ℕ) × (cost_at t u v ≡ Some c) × (c ≤ link_cost l)
  cost_of_link l leads = go (cost_at t u v) refl (priced.costed u v from to)
    where
      go : (o : Option ℕ) → cost_at t u v ≡ o → IsCost j u v o → (c : ℕ) × (cost_at t u v ≡ Some c) × (c ≤ link_cost l)
      go None e none = absurd (none l leads)
      go (Some c) e some = (c, e, some.least l leads)

  pub least_cost : (c : ℕ) → cost_at t u v ≡ Some c → IsCost j u v (Some c)
  least_cost c e = subst (λ (o : Option ℕ). IsCost j u v o) e (priced.costed u v from to)

  pub link_of_cost : (c : ℕ) → cost_at t u v ≡ Some c → (l : Link) × IsLinkOf j u v l × (link_cost l ≡ c)
  link_of_cost c e = (least_cost c e).attained

  pub cost_paid : (c : ℕ) → cost_at t u v ≡ Some c → 1 ≤ c
  cost_paid c e =
      let (l, leads, paid) = link_of_cost c e in
      omega (arith, paid, some_cost l)

  -- no cost of a link is above the greatest price
  pub cost_few : (c : ℕ) → cost_at t u v ≡ Some c → c ≤ count j.history + 1
  cost_few c e = go (link_of_cost c e).0 (link_of_cost c e).1 (link_of_cost c e).2
    where
      least : IsCost j u v (Some c)
      least = least_cost c e

      by : (l : Link) → IsDerived j u v l → (o : Option ℕ) → price_at t u v ≡ o → IsPrice j u v o → c ≤ count j.history + 1
      by l derived None same none = absurd (none l derived)
      by l derived (Some n) same some =
          let (p, other, costs) = some.attained in
          omega (arith, least.least p (link_of j u v p other), costs, priced.few u v n from to same)

      go : (l : Link) → IsLinkOf j u v l → link_cost l ≡ c → c ≤ count j.history + 1
      go (link.Session a b) leads paid = omega (arith, paid)
      go (link.Reads a b x) leads paid = omega (arith, paid)
      go (link.Derived b a x k walk) leads paid =
          let reason : IsReason j u v x k walk = rw (leads.from, leads.to) at leads.link in
          by (link.Derived u v x k walk) (x, k, walk, refl, reason) (price_at t u v) refl (priced.priced u v from to)
