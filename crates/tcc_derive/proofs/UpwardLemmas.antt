-- Least cycles that have nothing below their start, and what their first links lead to.
use Rattle.std.proofs.Common.{ℕ, ◌≡◌, ◌≤◌, List, [], ◌∷◌, ◌++◌, append_assoc, append-nil, All, refl, sym, subst, arith}
use Rattle.tcc_graph.specs.Levels.{Judged}
use Rattle.tcc_graph.specs.Links.{link_from, link_to, cost}
use Rattle.tcc_graph.specs.Routes.{LinksLead, IsLeastCycle, IsUpward}
use Rattle.tcc_graph.specs.declared.link.Link.{Link}
use Rattle.tcc_graph.proofs.Linking.{cost_cons, cost_append, cost_around, lead_append, lead_split, lead_end}
use Rattle.tcc_graph.proofs.Upward.{BeginFrom, ends_upward}

-- a least cycle, begun elsewhere
pub turn : (j : Judged) (s : ℕ) (front : List Link) (l : Link) (rest : List Link) → IsLeastCycle j s (front ++ l ∷ rest)
    → IsLeastCycle j (link_from l) (l ∷ rest ++ front)
turn j s front l rest is =
    let (m, lead, on) = lead_split j s s front (l ∷ rest) is.cycle.1 in
    let back : LinksLead j s (link_from l) front = subst (λ (z : ℕ). LinksLead j s z front) (sym on.0) lead in
    let costs : cost (l ∷ rest ++ front) ≡ cost (front ++ l ∷ rest) =
    omega (arith, cost_around front l rest, cost_cons l (rest ++ front), cost_append rest front) in
    record {
      cycle = (omega arith, (refl, on.1, lead_append j (link_to l) s (link_from l) rest front on.2 back));
      least = λ t others other. omega (arith, is.least t others other);
    }

-- if no least cycle starts below s, those from s have nothing below it
module _ (j : Judged) (s : ℕ) (lowest : (t : ℕ) (others : List Link) → IsLeastCycle j t others → s ≤ t) where
  pub begins_above : (front : List Link) (l : Link) (rest : List Link) → IsLeastCycle j s (front ++ l ∷ rest) → s ≤ link_from l
  begins_above front l rest is = lowest (link_from l) (l ∷ rest ++ front) (turn j s front l rest is)

  begin_from : (done links rest : List Link) → IsLeastCycle j s (done ++ (links ++ rest)) → BeginFrom s links
  begin_from done [] rest is = tt
  begin_from done (l ∷ links) rest is = (begins_above done l (links ++ rest) is, begin_from (done ++ l ∷ []) links rest (rw append_assoc is))

  pub end_above : (v : ℕ) (front rest : List Link) → IsLeastCycle j s (front ++ rest) → LinksLead j s v front → s ≤ v
  end_above v front [] is lead =
      let whole : LinksLead j s s front = subst (λ (ls : List Link). LinksLead j s s ls) (append-nil front) is.cycle.1 in
      omega (arith, lead_end j s s v front whole lead)
  end_above v front (l ∷ rest) is lead =
      let (m, before, on) = lead_split j s s front (l ∷ rest) is.cycle.1 in
      omega (arith, lead_end j s m v front before lead, on.0, begins_above front l rest is)

  -- the first links of a least cycle from s lead over numbers from s upward
  pub first_links : (v : ℕ) (front rest : List Link) → IsLeastCycle j s (front ++ rest) → LinksLead j s v front → All (IsUpward s) front
  first_links v front rest is lead = ends_upward j s s v front lead (end_above v front rest is lead) (begin_from [] front rest is)
