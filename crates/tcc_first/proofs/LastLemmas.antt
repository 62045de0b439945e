-- Which links may be the last, where at most three steps are left.
use Rattle.std.proofs.Common.{ℕ, ◌≡◌, ◌≢◌, ◌<◌, ◌≤◌, ◌+◌, ◌-◌, ◌⊎◌, inl, inr, List, refl, sym, ◌∙◌, subst, arith}
use Rattle.std.specs.declared.cmp.Ordering.TheVariants.{Greater}
use Rattle.std.proofs.lemmas.Bool.{cases_eq, cases_order, lt-ltb}
use Rattle.tcc_reads.specs.History.{History, count}
use Rattle.tcc_graph.specs.Levels.{Judged}
use Rattle.tcc_graph.specs.Relations.{IsCausalPair}
use Rattle.tcc_graph.specs.Links.{link_from, link_to, link_cost, cost}
use Rattle.tcc_graph.specs.Routes.{LinksLead}
use Rattle.tcc_graph.specs.Ties.{link_cmp}
use Rattle.tcc_graph.specs.declared.link.Link.{Link}
use Rattle.tcc_graph.proofs.Linking.{some_cost, no_links}
use Rattle.tcc_graph.proofs.Pairs.{pair_below}
use Rattle.tcc_first.specs.private.Starts.{IsFirstStart}
use Rattle.tcc_first.specs.private.Ways.{IsTwoStep, IsWay, IsLastFrom}
use Rattle.tcc_first.specs.private.Picks.{EndsWay, IsFirstLast, IsFirstOfCost}
use Rattle.tcc_first.proofs.Picking.{IsUnderWay, above, same_cost, at_start}
use Rattle.tcc_first.proofs.Around.{pair_of, two_step_of, apart, way_of, lead_of}

module _ (j : Judged) (s v n : ℕ) where
  pub last_of : (o : Link) → n ≤ 3 → (n ≡ 3 → s ≡ v) → EndsWay j s v n o → IsLastFrom j.history s v n (link_from o) (link_cost o)
  last_of o low around ends = go (cases_eq (link_cost o) 1) (cases_eq (link_cost o) 2)
    where
      front : List Link
      front = ends.way.0

      lead : LinksLead j s (link_from o) front
      lead = ends.way.1

      sum : cost front + link_cost o ≡ n
      sum = ends.way.2

      into : (P : ℕ → ℕ → Type 0) → P (link_from o) (link_to o) → P (link_from o) v
      into P p = subst (λ (z : ℕ). P (link_from o) z) ends.to p

      rest : cost front ≤ 2 → IsWay j.history (cost front) s (link_from o)
      rest few = way_of j front (cost front) s (link_from o) few lead refl

      go : (link_cost o ≡ 1) ⊎ (link_cost o ≢ 1) → (link_cost o ≡ 2) ⊎ (link_cost o ≢ 2) → IsLastFrom j.history s v n (link_from o) (link_cost o)
      go (inl one) k =
          inl (one, into (IsCausalPair j.history) (pair_of j o ends.link one), (cost front, omega (arith, sum, one), rest (omega (arith, sum, low, one))))
      go (inr other) (inl two) =
          inr (two, into (IsTwoStep j.history) (two_step_of j o ends.link two), (cost front, omega (arith, sum, two), rest (omega (arith, sum, low, two))))
      go (inr other) (inr another) =
          let none : cost front ≡ 0 = omega (arith, low, sum, other, another, some_cost o) in
          let three : n ≡ 3 = omega (arith, low, sum, other, another, some_cost o) in
          let same : s ≡ link_from o = subst (λ (ls : List Link). LinksLead j s (link_from o) ls) (no_links front none) lead in
          absurd (apart j o ends.link (omega (arith, other, some_cost o)) (sym same ∙ around three ∙ sym ends.to))

  pub of_last : (u q : ℕ) (l : Link) → IsLastFrom j.history s v n u q → IsFirstOfCost j u v q l → EndsWay j s v n l
  of_last u q l last first = record { to = first.to; link = first.link; way = go last }
    where
      by : (m : ℕ) → m + q ≡ n → IsWay j.history m s u → (front : List Link) × LinksLead j s (link_from l) front × (cost front + link_cost l ≡ n)
      by m sum way =
          let (front, lead, costs) = lead_of j m s u way in
          (front, subst (λ (z : ℕ). LinksLead j s z front) (sym first.from) lead, omega (arith, costs, sum, first.steps))

      go : IsLastFrom j.history s v n u q → (front : List Link) × LinksLead j s (link_from l) front × (cost front + link_cost l ≡ n)
      go (inl (one, pair, (m, sum, way))) = by m (omega (arith, one, sum)) way
      go (inr (two, short, (m, sum, way))) = by m (omega (arith, two, sum)) way

  -- and a link costs at least one step
  pub last_costs : (u q : ℕ) → IsLastFrom j.history s v n u q → (1 ≤ q) × (q ≤ n)
  last_costs u q (inl (one, pair, (m, sum, way))) = (omega (arith, one), omega (arith, one, sum))
  last_costs u q (inr (two, short, (m, sum, way))) = (omega (arith, two), omega (arith, two, sum))

-- the first link from the lowest number is the first of all
module _ {j : Judged} {s n : ℕ} (is : IsFirstStart j s n) (few : n ≤ 3) {end left : ℕ} {picked : List Link} (way : IsUnderWay j s n end left picked) where
  pub low : left ≤ 3
  low = omega (arith, way.costs, few)

  around : left ≡ 3 → s ≡ end
  around three = at_start is way (omega (arith, way.costs, few, three))

  pub none_last : ((u q : ℕ) → s ≤ u → IsLastFrom j.history s end left u q → ⊥) → (o : Link) → EndsWay j s end left o → ⊥
  none_last none o ends = none (link_from o) (link_cost o) (above is way o ends) (last_of j s end left o low around ends)

  pub first_last : {u q : ℕ} {l : Link} → IsLastFrom j.history s end left u q → ((v k : ℕ) → s ≤ v → IsLastFrom j.history s end left v k → u ≤ v)
      → IsFirstOfCost j u end q l → IsFirstLast j s end left l
  first_last {u} {q} {l} last lowest first = record { ends = ends; first = λ o other. up_to o other (cases_order u (link_from o)) }
    where
      ends : EndsWay j s end left l
      ends = of_last j s end left u q l last first

      up_to : (o : Link) → EndsWay j s end left o → (u ≡ link_from o) ⊎ ((u < link_from o) ⊎ (link_from o < u)) → link_cmp l o ≢ Greater
      up_to o other (inl same) =
          first.first o (sym same) other.to other.link (sym (same_cost is way l o ends other (first.from ∙ same)) ∙ first.steps)
      up_to o other (inr (inl less)) = rw (first.from, lt-ltb u (link_from o) less) (λ e. cc)
      up_to o other (inr (inr more)) =
          absurd (omega (arith, more, lowest (link_from o) (link_cost o) (above is way o other) (last_of j s end left o low around other)))

-- ---- what a link costs from one transaction to the end
module _ (h : History) (s v n u : ℕ) where
  pub by_pair : 0 < n → IsCausalPair h u v × IsWay h (n - 1) s u → IsLastFrom h s v n u 1
  by_pair some (pair, way) = inl (refl, pair, (n - 1, omega (arith, some), way))

  pub by_two_steps : 1 < n → IsWay h (n - 2) s u × IsTwoStep h u v → IsLastFrom h s v n u 2
  by_two_steps some (way, short) = inr (refl, short, (n - 2, omega (arith, some), way))

  pub none_by : 0 < n → (IsCausalPair h u v × IsWay h (n - 1) s u → ⊥) → (1 < n → IsWay h (n - 2) s u × IsTwoStep h u v → ⊥)
      → (q : ℕ) → IsLastFrom h s v n u q → ⊥
  none_by some none never q (inl (one, pair, (m, sum, way))) =
      none (pair, subst (λ (z : ℕ). IsWay h z s u) (omega (arith, sum)) way)
  none_by some none never q (inr (two, short, (m, sum, way))) =
      never (omega (arith, sum)) (subst (λ (z : ℕ). IsWay h z s u) (omega (arith, sum)) way, short)

  -- and it begins at a transaction
  pub from_below : (q : ℕ) → IsLastFrom h s v n u q → u < count h
  from_below q (inl (one, pair, way)) = (pair_below h u v pair).0
  from_below q (inr (two, (x, c, against, pair), way)) = (pair_below h u c pair).0

  -- of what kind it is
  pub kind_last : (q : ℕ) → IsLastFrom h s v n u q → ((q ≡ 1) × IsCausalPair h u v) ⊎ ((q ≡ 2) × IsTwoStep h u v)
  kind_last q (inl (one, pair, way)) = inl (one, pair)
  kind_last q (inr (two, short, way)) = inr (two, short)
