-- The links between the transactions of a picked cycle are the first that could be picked.
use Rattle.std.proofs.Common.{ℕ, ◌≡◌, ◌≢◌, ◌<◌, ◌≤◌, ◌+◌, ◌⊎◌, inl, inr, List, [], ◌∷◌, ◌++◌, length, length-append, get_or, reverse, take, refl, sym, ◌∙◌, ap, subst, arith}
use Rattle.std.specs.declared.cmp.Ordering.TheVariants.{Greater}
use Rattle.std.proofs.lemmas.Bool.{cases_order, lt-ltb}
use Rattle.std.proofs.lemmas.List.{length-reverse, reverse-append, take_more}
use Rattle.tcc_graph.specs.Levels.{Judged}
use Rattle.tcc_graph.specs.Links.{link_from, link_cost, cost}
use Rattle.tcc_graph.specs.Routes.{LinksLead, IsCycle}
use Rattle.tcc_graph.specs.Ties.{link_cmp}
use Rattle.tcc_graph.specs.declared.link.Link.{Link}
use Rattle.tcc_graph.proofs.Linking.{cost_around, cost_append, one_cost, lead_append}
use Rattle.tcc_least.specs.Shapes.{NoneBelow}
use Rattle.tcc_lanes.specs.Picked.{ArePicked, IsLowestLast, IsLowestStart, IsPickedAround}
use Rattle.tcc_first.specs.Cheapest.{IsFirstCheapest, IsLinkFrom}
use Rattle.tcc_first.specs.private.Starts.{IsFirstStart}
use Rattle.tcc_first.specs.private.Picks.{EndsWay, IsFirstLast}
use Rattle.tcc_first.proofs.Picking.{IsUnderWay, same_cost}

-- the first of the least cycles starts where the picked cycle does
pub starts_there : (j : Judged) (s n : ℕ) (picks : List ℕ) → NoneBelow j n → IsLowestStart j n s → 0 < length picks → ArePicked j s s n picks → IsFirstStart j s n
starts_there j s n [] none lowest some are = absurd (omega (arith, some))
starts_there j s n (u ∷ picks) none lowest some (q, last, rest) = record {
  attained = (front ++ l ∷ [], cycle, costs);
  least = none;
  lowest = λ t others least.
      let same : cost others ≡ n = omega (arith, none t others least.cycle, least.least s (front ++ l ∷ []) cycle, costs) in
      lowest t others least.cycle same;
}
  where
    l : Link
    l = last.last.link.0

    front : List Link
    front = last.last.way.0

    cycle : IsCycle j s (front ++ l ∷ [])
    cycle = let (k, from, to, is, price) = last.last.link in
        let (links, lead, sum) = last.last.way in
        (rw length-append (omega arith), lead_append j s u s links (k ∷ []) lead (from, is, to))

    costs : cost (front ++ l ∷ []) ≡ n
    costs = let (k, from, to, is, price) = last.last.link in
        let (links, lead, sum) = last.last.way in
        omega (arith, cost_append links (k ∷ []), one_cost k, price, sum)

module _ {j : Judged} {s n : ℕ} (is : IsFirstStart j s n) {end left : ℕ} {picked : List Link} (way : IsUnderWay j s n end left picked) where
  module _ (u q : ℕ) (last : IsLowestLast j s end left u q) where
    -- some link is cheap enough
    pub some_link : ((l : Link) → IsLinkFrom j u end l → n < link_cost l) → ⊥
    some_link none =
        let (l, from, to, link, price) = last.last.link in
        let (front, lead, sum) = last.last.way in
        omega (arith, none l (record { from = from; to = to; link = link }), price, sum, way.costs)

    module _ (l : Link) (first : IsFirstCheapest j u end l) where
      low : link_cost l ≤ q
      low =
          let (k, from, to, link, price) = last.last.link in
          omega (arith, first.least k (record { from = from; to = to; link = link }), price)

      high : q ≤ link_cost l
      high =
          let (front, lead, sum) = last.last.way in
          let there : LinksLead j s (link_from l) front = subst (λ (z : ℕ). LinksLead j s z front) (sym first.leads.from) lead in
          let on : LinksLead j (link_from l) s (l ∷ reverse picked) =
          (refl, first.leads.link, subst (λ (z : ℕ). LinksLead j z s (reverse picked)) (sym first.leads.to) way.back) in
          let cycle : IsCycle j s (front ++ l ∷ reverse picked) =
          (rw length-append (omega arith), lead_append j s (link_from l) s front (l ∷ reverse picked) there on) in
          omega (arith, is.least s (front ++ l ∷ reverse picked) cycle, cost_around front l (reverse picked), sum, way.costs)

      pub exact : link_cost l ≡ q
      exact = omega (arith, low, high)

      ends : EndsWay j s end left l
      ends =
          let (front, lead, sum) = last.last.way in
          record {
            to = first.leads.to;
            link = first.leads.link;
            way = (front, subst (λ (z : ℕ). LinksLead j s z front) (sym first.leads.from) lead, omega (arith, sum, exact));
          }

      lower : (o : Link) → EndsWay j s end left o → u ≤ link_from o
      lower o other =
          let (front, lead, sum) = other.way in
          last.lowest (link_from o) (link_cost o) (record { link = (o, refl, other.to, other.link, refl); way = (front, lead, sum) })

      pub first_picked : IsFirstLast j s end left l
      first_picked = record { ends = ends; first = λ o other. up_to o other (cases_order u (link_from o)) }
        where
          up_to : (o : Link) → EndsWay j s end left o → (u ≡ link_from o) ⊎ ((u < link_from o) ⊎ (link_from o < u)) → link_cmp l o ≢ Greater
          up_to o other (inl same) =
              first.first o (record { from = sym same; to = other.to; link = other.link })
              (sym (same_cost is way l o ends other (first.leads.from ∙ same)))
          up_to o other (inr (inl less)) = rw (first.leads.from, lt-ltb u (link_from o) less) (λ e. cc)
          up_to o other (inr (inr more)) = absurd (omega (arith, more, lower o other))

-- the last of what is picked is the start
pub ends_at : (j : Judged) (s v n : ℕ) (picks : List ℕ) (u : ℕ) → ArePicked j s v n (picks ++ u ∷ []) → u ≡ s
ends_at j s v n [] u (q, last, (m, sum, (same, none))) = same
ends_at j s v n (w ∷ picks) u (q, last, (m, sum, rest)) = ends_at j s w m picks u rest

-- what is left to pick, the next one first
pub next_first : (circle : List ℕ) (k : ℕ) → k < length circle → reverse (take (k + 1) circle) ≡ get_or circle k 0 ∷ reverse (take k circle)
next_first circle k inside = ap reverse (take_more circle k 0 inside) ∙ reverse-append (take k circle) (get_or circle k 0 ∷ [])

-- the first of a circle is where it starts
pub first_is : (j : Judged) (n s : ℕ) (circle : List ℕ) → 0 < n → ArePicked j s s n (reverse circle) → (0 < length circle) × (get_or circle 0 0 ≡ s)
first_is j n s [] some are = absurd (omega (arith, some, are.1))
first_is j n s (u ∷ circle) some are =
    (omega arith, ends_at j s s n (reverse circle) u (subst (λ (us : List ℕ). ArePicked j s s n us) (reverse-append (u ∷ []) circle) are))

pub start_of : (j : Judged) (n : ℕ) (circle : List ℕ) → 0 < n → NoneBelow j n → IsPickedAround j n circle
    → IsFirstStart j (get_or circle 0 0) n × ArePicked j (get_or circle 0 0) (get_or circle 0 0) n (reverse circle)
start_of j n circle some none (s, lowest, are) =
    let (long, is) = first_is j n s circle some are in
    subst (λ (z : ℕ). IsFirstStart j z n × ArePicked j z z n (reverse circle)) (sym is)
    (starts_there j s n (reverse circle) none lowest (omega (arith, long, length-reverse circle)) are, are)
