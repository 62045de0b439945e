-- Links lead where session pairs and the others say.
use Rattle.std.proofs.Common.{ℕ, ◌<◌, ◌≡◌, ◌⊎◌, inl, inr, List, Option, None, Some, refl, sym, ap, ◌∙◌, subst}
use Rattle.std.specs.Prelude.{◌↔◌, Contains}
use Rattle.tcc_reads.specs.History.{count}
use Rattle.tcc_graph.specs.Relations.{IsSessionPair, IsReadsPair}
use Rattle.tcc_graph.specs.Levels.{Judged}
use Rattle.tcc_graph.specs.Links.{IsReason, link_cost}
use Rattle.tcc_graph.specs.declared.step.Step.{Step}
use Rattle.tcc_graph.specs.declared.link.Link.{Link}
use Rattle.tcc_graph.specs.declared.link.Link.TheVariants as link
use Rattle.tcc_derive.specs.Prices.{Tables, IsPricesOf, IsPrice, IsCost, IsLinkOf, IsLater, IsEnd, IsOther, HasOthers, price_at, cost_at, end_of, others_at}
use Rattle.tcc_derive.specs.LinksOn.{AreLinks}
use Rattle.tcc_derive.proofs.CostLemmas.{session_cost}

module _ (j : Judged) (t : Tables) (is : IsPricesOf j t) (u : ℕ) (from : u < count j.history) where
  ended : IsEnd j.history u (end_of t u)
  ended = is.ended u from

  has : HasOthers j t u (others_at t u)
  has = is.others u from

  -- if there is a reason, there is a price
  priced : (v : ℕ) → v < count j.history → (x : List ℕ) (c : ℕ) (walk : List Step) → IsReason j u v x c walk → (o : Option ℕ) → price_at t u v ≡ o
      → IsPrice j u v o → IsOther j t u v
  priced v to x c walk reason None e none = absurd (none (link.Derived u v x c walk) (x, c, walk, refl, reason))
  priced v to x c walk reason (Some n) e least = record { below = to; why = inr (n, e) }

  lead : (v c : ℕ) → v < count j.history → cost_at t u v ≡ Some c → (l : Link) → IsLinkOf j u v l → link_cost l ≡ c
      → (IsLater t u v × (c ≡ 1)) ⊎ Contains (others_at t u) (v, c)
  lead v c to e (link.Session a b) w costs =
      let pair : IsSessionPair j.history u v = rw (w.from, w.to) at w.link in
      let later = (ended.pairs v).0 pair in
      inl (later, sym costs)
  lead v c to e (link.Reads a b x) w costs =
      let pair : IsReadsPair j.history u v x = rw (w.from, w.to) at w.link in
      inr (has.each v c (record { below = to; why = inl (x, pair) }) e)
  lead v c to e (link.Derived b a x d walk) w costs =
      let reason : IsReason j u v x d walk = rw (w.from, w.to) at w.link in
      inr (has.each v c (priced v to x d walk reason (price_at t u v) refl (is.priced u v from to)) e)

  pub links_on : (v c : ℕ) → v < count j.history → (cost_at t u v ≡ Some c) ↔ ((IsLater t u v × (c ≡ 1)) ⊎ Contains (others_at t u) (v, c))
  links_on v c to = (forth, back)
    where
      forth : cost_at t u v ≡ Some c → (IsLater t u v × (c ≡ 1)) ⊎ Contains (others_at t u) (v, c)
      forth e =
          let least : IsCost j u v (Some c) = subst (λ (o : Option ℕ). IsCost j u v o) e (is.costed u v from to) in
          lead v c to e least.attained.0 least.attained.1 least.attained.2

      back : (IsLater t u v × (c ≡ 1)) ⊎ Contains (others_at t u) (v, c) → cost_at t u v ≡ Some c
      back (inl w) = session_cost j u v ((ended.pairs v).1 w.0) (cost_at t u v) (is.costed u v from to) ∙ ap Some (sym w.1)
      back (inr there) = (has.only v c there).1

pub links_of : (j : Judged) (t : Tables) → IsPricesOf j t → AreLinks j t
links_of j t is u v c from to = links_on j t is u from v c to
