-- The members of a way back, read off from its costs.
use Rattle.std.proofs.Common.{◌≡◌, ◌<◌, ◌≤◌, ◌+◌, ℕ, List, [], ◌∷◌, ◌++◌, length, get_or, map, refl, sym, ap, subst, ◌∙◌, arith}
use Rattle.std.specs.Prelude.{reverse}
use Rattle.std.proofs.lemmas.List.{reverse-append}
use Rattle.tcc_graph.specs.Levels.{Judged}
use Rattle.tcc_graph.specs.Links.{cost, link_from}
use Rattle.tcc_graph.specs.Routes.{LinksLead}
use Rattle.tcc_graph.specs.declared.link.Link.{Link}
use Rattle.tcc_graph.proofs.Linking.{cost_cons}
use Rattle.tcc_lanes.specs.Among.{HasCheaperAlong}
use Rattle.tcc_lanes.specs.declared.pricing.TheConstants.{NONE}
use Rattle.tcc_lanes.specs.private.Pricing.{ArePriceRows, IsWayBack, price_of}

pub way_first : (j : Judged) (members : List ℕ) (s : ℕ) (costs : List ℕ) → IsWayBack j members s costs s []
way_first j members s costs = ([], refl, refl, omega arith)

module _ (j : Judged) (members : List ℕ) (most : ℕ) (rows : List (List ℕ)) (are : ArePriceRows j members most (length members) rows)
    (s : ℕ) (costs : List ℕ) (high : most ≤ NONE) (low : get_or costs s 0 < most) where
  -- one more link at the front, whose price adds up
  longer : (from to : ℕ) (circle : List ℕ) → from < length members → to < length members → price_of rows from to ≤ get_or costs to 0
      → IsWayBack j members s costs to circle
      → (links : List Link) × LinksLead j (get_or members from 0) (get_or members s 0) links × (0 < length links)
      × (map link_from links ≡ reverse (circle ++ get_or members from 0 ∷ [])) × (cost links + get_or costs to 0 ≤ price_of rows from to + get_or costs s 0)
  longer from to circle inside within cheap (links, lead, alike, few) =
      let (one, begins, ends, is, dear) = (are.each from inside inside).sound to within (omega (arith, cheap, few, low, high)) in (
        one ∷ links,
        (begins, is, subst (λ (z : ℕ). LinksLead j z (get_or members s 0) links) (sym ends) lead),
        omega arith,
        ap (λ (z : ℕ). z ∷ map link_from links) begins
            ∙ (ap (λ (zs : List ℕ). get_or members from 0 ∷ zs) alike ∙ sym (reverse-append circle (get_or members from 0 ∷ []))),
        omega (arith, cost_cons one links, dear, few),
      )

  pub way_more : (from to : ℕ) (circle : List ℕ) → from < length members → to < length members
      → get_or costs from 0 + price_of rows from to ≡ get_or costs to 0 → IsWayBack j members s costs to circle
      → IsWayBack j members s costs from (circle ++ get_or members from 0 ∷ [])
  way_more from to circle inside within adds way =
      let (links, lead, some, alike, few) = longer from to circle inside within (omega (arith, adds)) way in
      (links, lead, alike, omega (arith, few, adds))

  pub circled : (to : ℕ) (circle : List ℕ) → s < length members → to < length members → price_of rows s to ≤ get_or costs to 0
      → IsWayBack j members s costs to circle → HasCheaperAlong j (reverse (circle ++ get_or members s 0 ∷ [])) most
  circled to circle inside within cheap way =
      let (links, lead, some, alike, few) = longer s to circle inside within cheap way in
      (get_or members s 0, links, (some, lead), alike, omega (arith, few, cheap, low))
