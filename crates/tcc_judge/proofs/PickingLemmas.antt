-- The transactions of a cycle, and those of the first cycle into `init`.
use Rattle.std.proofs.Common.{◌≡◌, ◌≢◌, ◌<◌, ◌≤◌, ◌+◌, inl, inr, ℕ, zero, suc, List, [], ◌∷◌, length, map, refl, sym, subst, arith}
use Rattle.std.specs.List.{All, Contains}
use Rattle.std.proofs.lemmas.List.Elements.{All-cons, All-nil}
use Rattle.tcc_reads.specs.History.{count}
use Rattle.tcc_graph.specs.Keys.{key_at}
use Rattle.tcc_graph.specs.Levels.{Judged}
use Rattle.tcc_graph.specs.Links.{IsLink, IsReason, cost, link_cost, link_from, link_to}
use Rattle.tcc_graph.specs.Relations.{IsCausalPair, IsSessionPair}
use Rattle.tcc_graph.specs.Routes.{LinksLead}
use Rattle.tcc_graph.specs.declared.link.Link.{Link}
use Rattle.tcc_graph.specs.declared.link.Link.TheVariants as link
use Rattle.tcc_graph.specs.declared.step.Step.{Step}
use Rattle.tcc_graph.proofs.Linking.{cost_cons, derived_cost, one_cost, some_cost}
use Rattle.tcc_graph.proofs.Pairs.{initial_pair, link_below}
use Rattle.tcc_least.specs.LeadingBack.{NoneIntoInit}
use Rattle.tcc_least.specs.Shapes.{NoneBelow}
use Rattle.tcc_lanes.specs.Among.{ComesIntoInit, IsLowestIntoInit}
use Rattle.tcc_lanes.specs.Picked.{IsLastAt, IsLowestLast, IsPickedAround}

pub begin_inside : (j : Judged) (a b : ℕ) (links : List Link) → LinksLead j a b links → All (λ v. v < count j.history) (map link_from links)
begin_inside j a b [] lead = All-nil (λ (v : ℕ). v < count j.history)
begin_inside j a b (l ∷ links) lead =
    All-cons (λ (v : ℕ). v < count j.history) (link_from l) (map link_from links) (link_below j l lead.1).0 (begin_inside j (link_to l) b links lead.2)

positive : (b : ℕ) → (b ≡ 0 → ⊥) → 0 < b
positive zero other = absurd (other refl)
positive (suc b) other = omega arith

module _ (j : Judged) (n : ℕ) (none : NoneBelow j n) (never : NoneIntoInit j.history) (there : 0 < count j.history) (key_indices : List ℕ)
    (has_keys : (b : ℕ) (x : List ℕ) (c : ℕ) (walk : List Step) → IsReason j b 0 x c walk → (k : ℕ) × Contains key_indices k × (key_at j.history k ≡ x)) where
  -- `init` leads to it
  from_init : (b : ℕ) (x : List ℕ) (c : ℕ) (walk : List Step) → IsReason j b 0 x c walk → IsSessionPair j.history 0 b
  from_init b x c walk reason = initial_pair j.history 0 b refl there (positive b reason.0.0) reason.0.2.0

  -- a derived link into `init` and a pair to where it begins cost at least n
  dear : (b : ℕ) (x : List ℕ) (c : ℕ) (walk : List Step) → IsReason j b 0 x c walk → n ≤ length walk + 2
  dear b x c walk reason =
      omega (
        arith,
        none 0 (link.Session 0 b ∷ link.Derived b 0 x c walk ∷ []) (omega arith, (refl, from_init b x c walk reason, (refl, reason, refl))),
        cost_cons (link.Session 0 b) (link.Derived b 0 x c walk ∷ []),
        one_cost (link.Derived b 0 x c walk),
        derived_cost b 0 x c walk,
      )

  way_costs : (w : ℕ) (front : List Link) → w ≢ 0 → LinksLead j 0 w front → 0 < cost front
  way_costs w [] other lead = absurd (other (sym lead))
  way_costs w (l ∷ links) other lead = omega (arith, cost_cons l links, some_cost l)

  -- the last transaction of a way of n steps from `init` to itself has a link into `init`
  last_into : (w p : ℕ) → IsLastAt j 0 0 n w p → ComesIntoInit j key_indices (n + 1) w
  last_into w p last = by last.link.0 last.link.1 last.link.2 last.link.3 last.link.4
    where
      by : (l : Link) → link_from l ≡ w → link_to l ≡ 0 → IsLink j l → link_cost l ≡ p → ComesIntoInit j key_indices (n + 1) w
      by (link.Session a b) from to is costs = absurd (never a (subst (λ (z : ℕ). IsCausalPair j.history a z) to (inl is)))
      by (link.Reads a b x) from to is costs = absurd (never a (subst (λ (z : ℕ). IsCausalPair j.history a z) to (inr (x, is))))
      by (link.Derived b a x c walk) from to is costs =
          let into : IsReason j b 0 x c walk = subst (λ (z : ℕ). IsReason j b z x c walk) to is in
          let reason : IsReason j w 0 x c walk = subst (λ (z : ℕ). IsReason j z 0 x c walk) from into in
          let key = has_keys w x c walk reason in
          let (front, lead, sum) = last.way in (
            key.0,
            c,
            walk,
            key.1,
            subst (λ (y : List ℕ). IsReason j w 0 y c walk) (sym key.2) reason,
            omega (arith, sum, costs, derived_cost b a x c walk, way_costs w front reason.0.0 lead),
          )

  -- so the lowest that has one is picked
  pub picked_into : (b : ℕ) → IsLowestIntoInit j key_indices (n + 1) b
      → All (λ v. v < count j.history) (0 ∷ b ∷ []) × IsPickedAround j n (0 ∷ b ∷ [])
  picked_into b ((k, c, walk, listed, reason, few), lowest) = (
    All-cons (λ (v : ℕ). v < count j.history) 0 (b ∷ []) there
        (All-cons (λ (v : ℕ). v < count j.history) b [] reason.0.2.0 (All-nil (λ (v : ℕ). v < count j.history))),
    (
      0,
      (λ t links cycle costs. omega arith),
      (length walk + 1, last_one, (1, exact, (1, first_one, (0, refl, (refl, refl))))),
    ),
  )
    where
      x : List ℕ
      x = key_at j.history k

      pair : IsSessionPair j.history 0 b
      pair = from_init b x c walk reason

      exact : 1 + (length walk + 1) ≡ n
      exact = omega (arith, dear b x c walk reason, few)

      last_one : IsLowestLast j 0 0 n b (length walk + 1)
      last_one = record {
        last = record {
          link = (link.Derived b 0 x c walk, refl, refl, reason, derived_cost b 0 x c walk);
          way = (link.Session 0 b ∷ [], (refl, pair, refl), exact);
        };
        lowest = λ w p is. lowest w (last_into w p is);
      }

      first_one : IsLowestLast j 0 b 1 0 1
      first_one = record {
        last = record { link = (link.Session 0 b, refl, refl, pair, refl); way = ([], refl, refl) };
        lowest = λ w p is. omega arith;
      }
