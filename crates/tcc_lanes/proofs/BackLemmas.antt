-- Cycles where all pairs rise.
use Rattle.std.proofs.Common.{◌≡◌, ◌≢◌, ◌<◌, ◌≤◌, ◌+◌, ◌-◌, ◌⊎◌, inl, inr, ℕ, List, [], ◌∷◌, ◌++◌, length, take, drop, refl, sym, ap, subst, ◌∙◌, arith}
use Rattle.std.specs.List.{Contains}
use Rattle.std.proofs.lemmas.Bool.{cases_lt}
use Rattle.std.proofs.lemmas.List.{drop_more, length-append, take-append-drop}
use Rattle.std.proofs.lemmas.List.Elements.{Contains-append_cases, Contains-append_left, Contains-append_right}
use Rattle.tcc_graph.specs.Levels.{Judged}
use Rattle.tcc_graph.specs.Links.{IsLink, IsReason, cost, link_from, link_to}
use Rattle.tcc_graph.specs.Routes.{IsCycle, IsRoute, LinksLead}
use Rattle.tcc_graph.specs.declared.link.Link.{Link}
use Rattle.tcc_graph.specs.declared.link.Link.TheVariants as link
use Rattle.tcc_graph.specs.declared.step.Step.{Step}
use Rattle.tcc_graph.proofs.Linking.{cost_append, cost_around, derived_cost, lead_append, lead_split, route_on}
use Rattle.tcc_least.specs.LeadingBack.{HasLinkBack, Rises}
use Rattle.tcc_least.specs.Shapes.{NoneBelow}
use Rattle.tcc_least.proofs.LeadingBack.{link_back}
use Rattle.tcc_lanes.specs.Contradicted.{HasCheaper, IsAgainstRanks, IsRankSpanned, IsSpannedAside}

-- the links before one of them, and those after it
pub record Parted (links : List Link) (l : Link) : Type 0 where
  pub front : List Link
  pub behind : List Link
  pub is : links ≡ front ++ l ∷ behind

pub parted : (links : List Link) (l : Link) → Contains links l → Parted links l
parted links l (k, inside, at) = record {
  front = take k links;
  behind = drop (k + 1) links;
  is =
      sym (take-append-drop k links)
      ∙ ap (λ rest. take k links ++ rest) (drop_more links k l inside ∙ ap (λ m. m ∷ drop (k + 1) links) at);
}

module _ (j : Judged) (rank : ℕ → ℕ) (rises : Rises j.history rank) where
  -- a cycle by one of its derived links: what leads to it, and what leads on from it
  record Turned (s : ℕ) (links : List Link) (b : ℕ) (a : ℕ) (x : List ℕ) (c : ℕ) (walk : List Step) : Type 0 where
    front : List Link
    behind : List Link
    is : links ≡ front ++ link.Derived b a x c walk ∷ behind
    comes : LinksLead j s b front
    reason : IsReason j b a x c walk
    goes : LinksLead j a s behind
    costs : cost links ≡ cost front + ((length walk + 1) + cost behind)

  turned : (s : ℕ) (links : List Link) (b a : ℕ) (x : List ℕ) (c : ℕ) (walk : List Step) → IsCycle j s links → Contains links (link.Derived b a x c walk)
      → Turned s links b a x c walk
  turned s links b a x c walk cycle there =
      let p = parted links (link.Derived b a x c walk) there in
      let (m, front, later) = lead_split j s s p.front (link.Derived b a x c walk ∷ p.behind) (subst (LinksLead j s s) p.is cycle.1) in
      record {
        front = p.front;
        behind = p.behind;
        is = p.is;
        comes = subst (λ (z : ℕ). LinksLead j s z p.front) (sym later.0) front;
        reason = later.1;
        goes = later.2;
        costs = omega (arith, ap cost p.is, cost_around p.front (link.Derived b a x c walk) p.behind, derived_cost b a x c walk);
      }

  some_route : (a b : ℕ) (links : List Link) → b ≢ a → LinksLead j a b links → IsRoute j a b links
  some_route a b [] other lead = absurd (other (sym lead))
  some_route a b (l ∷ links) other lead = (omega arith, lead)

  pub cheaper_none : (n : ℕ) → NoneBelow j n → (a : ℕ) (x : List ℕ) (c : ℕ) → IsAgainstRanks j rank a x c → HasCheaper j n a x c → ⊥
  cheaper_none n none a x c contradicted (b, walk, links, route, reason, cheap) =
      let longer = route_on j a b a links (link.Derived b a x c walk) route refl refl reason in
      omega (arith, none a (links ++ link.Derived b a x c walk ∷ []) longer.0, longer.1, derived_cost b a x c walk, cheap)

  pub none_cheaper : (n : ℕ) → ((a : ℕ) (x : List ℕ) (c : ℕ) → IsAgainstRanks j rank a x c → HasCheaper j n a x c → ⊥) → NoneBelow j n
  none_cheaper n none s links cycle = go (cases_lt (cost links) n)
    where
      by : cost links < n → HasLinkBack rank links → ⊥
      by few (b, a, x, c, walk, there, low) =
          let w = turned s links b a x c walk cycle there in
          none a x c (b, walk, w.reason, low) (
            b,
            walk,
            w.behind ++ w.front,
            some_route a b (w.behind ++ w.front) w.reason.0.0 (lead_append j a s b w.behind w.front w.goes w.comes),
            w.reason,
            omega (arith, few, w.costs, cost_append w.behind w.front),
          )

      go : (cost links < n) ⊎ (n ≤ cost links) → n ≤ cost links
      go (inr much) = much
      go (inl few) = absurd (by few (link_back j rank rises s links cycle))

  -- one of the derived links leads down past a rank
  abbrev pub Crossed : List Link → ℕ → Type 0
  Crossed links q =
      (b : ℕ) × (a : ℕ) × (x : List ℕ) × (c : ℕ) × (walk : List Step) × Contains links (link.Derived b a x c walk) × IsReason j b a x c walk × (rank a ≤ q)
      × (q < rank b)

  -- links that lead down past it have one that does
  pub crossing : (u v q : ℕ) (links : List Link) → LinksLead j u v links → q < rank u → rank v ≤ q
      → Crossed links q
  crossing u v q [] lead high low = absurd (omega (arith, high, low, ap rank lead))
  crossing u v q (l ∷ links) lead high low = go (λ still. crossing (link_to l) v q links lead.2 still low) (cases_lt q (rank (link_to l)))
    where
      from : q < rank (link_from l)
      from = subst (λ (z : ℕ). q < rank z) (sym lead.0) high

      over : (l : Link) → IsLink j l → q < rank (link_from l) → rank (link_to l) ≤ q
          → Crossed (l ∷ links) q
      over (link.Session a b) is up down = absurd (omega (arith, rises a b (inl is), up, down))
      over (link.Reads a b x) is up down = absurd (omega (arith, rises a b (inr (x, is)), up, down))
      over (link.Derived b a x c walk) is up down = (b, a, x, c, walk, (0, omega arith, refl), is, down, up)

      go : (q < rank (link_to l) → Crossed links q) → (q < rank (link_to l)) ⊎ (rank (link_to l) ≤ q) → Crossed (l ∷ links) q
      go later (inl still) =
          let (b, a, x, c, walk, there, is, down, up) = later still in
          (b, a, x, c, walk, Contains-append_right (l ∷ []) links (link.Derived b a x c walk) there, is, down, up)
      go later (inr down) = over l lead.1 from down

  -- one of the derived links of a cycle leads back over v
  abbrev SpannedIn : List Link → ℕ → Type 0
  SpannedIn links v =
      (b : ℕ) × (a : ℕ) × (x : List ℕ) × (c : ℕ) × (walk : List Step) × Contains links (link.Derived b a x c walk) × IsReason j b a x c walk
      × (rank a ≤ rank v) × (rank v ≤ rank b)

  spanned_in : (v : ℕ) (links : List Link) → IsCycle j v links → SpannedIn links v
  spanned_in v links cycle = by (link_back j rank rises v links cycle)
    where
      by : HasLinkBack rank links → SpannedIn links v
      by (b, a, x, c, walk, there, low) = go (cases_lt (rank v) (rank a)) (cases_lt (rank b) (rank v))
        where
          w : Turned v links b a x c walk
          w = turned v links b a x c walk cycle there

          in_front : (l : Link) → Contains w.front l → Contains links l
          in_front l listed =
              subst (λ (z : List Link). Contains z l) (sym w.is) (Contains-append_left w.front (link.Derived b a x c walk ∷ w.behind) l listed)

          in_behind : (l : Link) → Contains w.behind l → Contains links l
          in_behind l listed =
              subst (λ (z : List Link). Contains z l) (sym w.is)
              (Contains-append_right w.front (link.Derived b a x c walk ∷ w.behind) l (Contains-append_right (link.Derived b a x c walk ∷ []) w.behind l listed))

          go : (rank v < rank a) ⊎ (rank a ≤ rank v) → (rank b < rank v) ⊎ (rank v ≤ rank b) → SpannedIn links v
          go (inr below) (inr above) = (b, a, x, c, walk, there, w.reason, below, above)
          go (inl high) q =
              let (d, e, y, f, other, listed, is, down, up) = crossing a v (rank v) w.behind w.goes high (omega arith) in
              (d, e, y, f, other, in_behind (link.Derived d e y f other) listed, is, down, omega (arith, up))
          go (inr p) (inl late) =
              let (d, e, y, f, other, listed, is, down, up) = crossing v b (rank v - 1) w.front w.comes (omega (arith, late)) (omega (arith, late)) in
              (d, e, y, f, other, in_front (link.Derived d e y f other) listed, is, omega (arith, down), omega (arith, up))

  pub spanned : (v : ℕ) (links : List Link) → IsCycle j v links → IsRankSpanned j rank v
  spanned v links cycle = let (b, a, x, c, walk, there, is, low, high) = spanned_in v links cycle in (b, a, x, c, walk, is, low, high)

  -- ---- cycles that don't go through `init`
  aside : (v : ℕ) (links : List Link) → IsCycle j v links → ((l : Link) → Contains links l → link_to l ≢ 0) → IsSpannedAside j rank v
  aside v links cycle never =
      let (b, a, x, c, walk, there, is, low, high) = spanned_in v links cycle in
      (b, a, x, c, walk, is, never (link.Derived b a x c walk) there, low, high)

  -- both ends of each link are spanned, as the cycle may as well begin there
  pub spanned_aside : (v : ℕ) (links : List Link) → IsCycle j v links → ((l : Link) → Contains links l → link_to l ≢ 0) → (l : Link) → Contains links l
      → IsSpannedAside j rank (link_from l) × IsSpannedAside j rank (link_to l)
  spanned_aside v links cycle never l there = (
    aside (link_from l) ((l ∷ p.behind) ++ p.front)
        (omega arith, lead_append j (link_from l) v (link_from l) (l ∷ p.behind) p.front (refl, later.1, later.2) (subst (λ (z : ℕ). LinksLead j v z p.front) (sym later.0) front))
        (λ d listed. never d (back_from d (Contains-append_cases (l ∷ p.behind) p.front d listed))),
    aside (link_to l) (p.behind ++ (p.front ++ l ∷ []))
        (omega (arith, length-append p.behind (p.front ++ l ∷ []), length-append p.front (l ∷ [])), lead_append j (link_to l) v (link_to l) p.behind (p.front ++ l ∷ []) later.2 (lead_append j v (link_from l) (link_to l) p.front (l ∷ []) (subst (λ (z : ℕ). LinksLead j v z p.front) (sym later.0) front) (refl, later.1, refl)))
        (λ d listed. never d (back_to d (Contains-append_cases p.behind (p.front ++ l ∷ []) d listed))),
  )
    where
      p : Parted links l
      p = parted links l there

      split : (m : ℕ) × LinksLead j v m p.front × LinksLead j m v (l ∷ p.behind)
      split = lead_split j v v p.front (l ∷ p.behind) (subst (LinksLead j v v) p.is cycle.1)

      front : LinksLead j v split.0 p.front
      front = split.1

      later : LinksLead j split.0 v (l ∷ p.behind)
      later = split.2

      all : (d : Link) → Contains (p.front ++ l ∷ p.behind) d → Contains links d
      all d listed = subst (λ (z : List Link). Contains z d) (sym p.is) listed

      back_from : (d : Link) → Contains (l ∷ p.behind) d ⊎ Contains p.front d → Contains links d
      back_from d (inl listed) = all d (Contains-append_right p.front (l ∷ p.behind) d listed)
      back_from d (inr listed) = all d (Contains-append_left p.front (l ∷ p.behind) d listed)

      back_to : (d : Link) → Contains p.behind d ⊎ Contains (p.front ++ l ∷ []) d → Contains links d
      back_to d (inl listed) = all d (Contains-append_right p.front (l ∷ p.behind) d (Contains-append_right (l ∷ []) p.behind d listed))
      back_to d (inr listed) = go (Contains-append_cases p.front (l ∷ []) d listed)
        where
          go : Contains p.front d ⊎ Contains (l ∷ []) d → Contains links d
          go (inl early) = all d (Contains-append_left p.front (l ∷ p.behind) d early)
          go (inr one) = all d (Contains-append_right p.front (l ∷ p.behind) d (Contains-append_left (l ∷ []) p.behind d one))
