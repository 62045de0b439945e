-- Each transaction of a cycle that costs less, and never comes to `init`, is near.
use Rattle.std.proofs.Common.{◌≡◌, ◌≢◌, ◌<◌, ◌≤◌, ◌+◌, ◌⊎◌, inl, inr, ℕ, List, [], ◌∷◌, ◌++◌, length, length-append, refl, sym, ap, subst, ◌∙◌, arith}
use Rattle.std.specs.List.{Contains}
use Rattle.std.proofs.lemmas.Bool.{cases_lt}
use Rattle.std.proofs.lemmas.List.Elements.{Contains-append_cases, Contains-append_left, Contains-append_right}
use Rattle.tcc_graph.specs.Levels.{Judged}
use Rattle.tcc_graph.specs.Links.{IsLink, IsReason, cost, link_cost, link_from, link_to}
use Rattle.tcc_graph.specs.Relations.{IsCausalPair}
use Rattle.tcc_graph.specs.Routes.{IsCycle, LinksLead}
use Rattle.tcc_graph.specs.declared.link.Link.{Link}
use Rattle.tcc_graph.specs.declared.link.Link.TheVariants as link
use Rattle.tcc_graph.specs.declared.step.Step.{Step}
use Rattle.tcc_graph.proofs.Linking.{cost_append, cost_around, cost_cons, derived_cost, lead_append, lead_split, one_cost, some_cost}
use Rattle.tcc_least.specs.LeadingBack.{Rises}
use Rattle.tcc_lanes.specs.Nearness.{IsClosing, IsForward, IsNear, IsOnward, IsOver}
use Rattle.tcc_lanes.proofs.BackLemmas.{Parted, crossing, parted}

module _ (j : Judged) (rank : ℕ → ℕ) (rises : Rises j.history rank) where
  -- each link leads to a greater rank
  abbrev Climbs : List Link → Type 0
  Climbs [] = Unit {0}
  Climbs (l ∷ links) = (rank (link_from l) < rank (link_to l)) × Climbs links

  -- a derived link that leads to no greater rank
  record IsBack (b : ℕ) (a : ℕ) (x : List ℕ) (c : ℕ) (walk : List Step) : Type 0 where
    reason : IsReason j b a x c walk
    back : rank a ≤ rank b

  climbs_or_back : (l : Link) → IsLink j l → (rank (link_from l) < rank (link_to l))
      ⊎ ((b : ℕ) × (a : ℕ) × (x : List ℕ) × (c : ℕ) × (walk : List Step) × (l ≡ link.Derived b a x c walk) × IsBack b a x c walk)
  climbs_or_back (link.Session a b) is = inl (rises a b (inl is))
  climbs_or_back (link.Reads a b x) is = inl (rises a b (inr (x, is)))
  climbs_or_back (link.Derived b a x c walk) is = go (cases_lt (rank b) (rank a))
    where
      go : (rank b < rank a) ⊎ (rank a ≤ rank b) → (rank b < rank a)
          ⊎ ((d : ℕ) × (e : ℕ) × (y : List ℕ) × (f : ℕ) × (other : List Step) × (link.Derived b a x c walk ≡ link.Derived d e y f other) × IsBack d e y f other)
      go (inl up) = inl up
      go (inr down) = inr (b, a, x, c, walk, refl, record { reason = is; back = down })

  -- the links before the first one that leads back, and those after it
  record First (v : ℕ) (w : ℕ) (links : List Link) : Type 0 where
    front : List Link
    b : ℕ
    a : ℕ
    x : List ℕ
    c : ℕ
    walk : List Step
    rest : List Link
    is : links ≡ front ++ link.Derived b a x c walk ∷ rest
    comes : LinksLead j v b front
    climbs : Climbs front
    back : IsBack b a x c walk
    goes : LinksLead j a w rest

  first_back : (v w : ℕ) (links : List Link) → LinksLead j v w links → Climbs links ⊎ First v w links
  first_back v w [] lead = inl tt
  first_back v w (l ∷ links) (from, is, later) = go (climbs_or_back l is) (first_back (link_to l) w links later)
    where
      go : (rank (link_from l) < rank (link_to l))
          ⊎ ((b : ℕ) × (a : ℕ) × (x : List ℕ) × (c : ℕ) × (walk : List Step) × (l ≡ link.Derived b a x c walk) × IsBack b a x c walk)
          → Climbs links ⊎ First (link_to l) w links → Climbs (l ∷ links) ⊎ First v w (l ∷ links)
      go (inl up) (inl climbs) = inl (up, climbs)
      go (inl up) (inr f) = inr record {
        front = l ∷ f.front;
        b = f.b;
        a = f.a;
        x = f.x;
        c = f.c;
        walk = f.walk;
        rest = f.rest;
        is = ap (λ ls. l ∷ ls) f.is;
        comes = (from, is, f.comes);
        climbs = (up, f.climbs);
        back = f.back;
        goes = f.goes;
      }
      go (inr (b, a, x, c, walk, same, back)) q = inr record {
        front = [];
        b = b;
        a = a;
        x = x;
        c = c;
        walk = walk;
        rest = links;
        is = ap (λ m. m ∷ links) same;
        comes = sym from ∙ ap link_from same;
        climbs = tt;
        back = back;
        goes = subst (λ (m : Link). LinksLead j (link_to m) w links) same later;
      }

  -- the links up to the last one that leads back, with it, and those after it
  record Last (v : ℕ) (w : ℕ) (links : List Link) : Type 0 where
    early : List Link
    b : ℕ
    a : ℕ
    x : List ℕ
    c : ℕ
    walk : List Step
    behind : List Link
    is : links ≡ early ++ behind
    comes : LinksLead j v a early
    listed : Contains early (link.Derived b a x c walk)
    back : IsBack b a x c walk
    goes : LinksLead j a w behind
    climbs : Climbs behind

  last_back : (v w : ℕ) (links : List Link) → LinksLead j v w links → Climbs links ⊎ Last v w links
  last_back v w [] lead = inl tt
  last_back v w (l ∷ links) (from, is, later) = go (climbs_or_back l is) (last_back (link_to l) w links later)
    where
      go : (rank (link_from l) < rank (link_to l))
          ⊎ ((b : ℕ) × (a : ℕ) × (x : List ℕ) × (c : ℕ) × (walk : List Step) × (l ≡ link.Derived b a x c walk) × IsBack b a x c walk)
          → Climbs links ⊎ Last (link_to l) w links → Climbs (l ∷ links) ⊎ Last v w (l ∷ links)
      go q (inr f) = inr record {
        early = l ∷ f.early;
        b = f.b;
        a = f.a;
        x = f.x;
        c = f.c;
        walk = f.walk;
        behind = f.behind;
        is = ap (λ ls. l ∷ ls) f.is;
        comes = (from, is, f.comes);
        listed = Contains-append_right (l ∷ []) f.early (link.Derived f.b f.a f.x f.c f.walk) f.listed;
        back = f.back;
        goes = f.goes;
        climbs = f.climbs;
      }
      go (inl up) (inl climbs) = inl (up, climbs)
      go (inr (b, a, x, c, walk, same, back)) (inl climbs) = inr record {
        early = l ∷ [];
        b = b;
        a = a;
        x = x;
        c = c;
        walk = walk;
        behind = links;
        is = refl;
        comes = (from, is, ap link_to same);
        listed = (0, omega arith, same);
        back = back;
        goes = subst (λ (m : Link). LinksLead j (link_to m) w links) same later;
        climbs = climbs;
      }

  climbed : (u v : ℕ) (links : List Link) → LinksLead j u v links → Climbs links → rank u + length links ≤ rank v
  climbed u v [] same climbs = subst (λ (z : ℕ). rank u + 0 ≤ rank z) same (omega arith)
  climbed u v (l ∷ links) (from, is, later) (up, climbs) =
      omega (arith, ap rank from, up, climbed (link_to l) v links later climbs)

  -- a cycle that costs less, and never comes to `init`
  module _ (most : ℕ) (v : ℕ) (links : List Link) (cycle : IsCycle j v links) (never : (l : Link) → Contains links l → link_to l ≢ 0) (few : cost links < most) where
    -- a cycle has another link besides a derived one
    short : (b a : ℕ) (x : List ℕ) (c : ℕ) (walk : List Step) → Contains links (link.Derived b a x c walk) → IsBack b a x c walk → length walk + 1 + 1 < most
    short b a x c walk there back = go p.front p.behind p.is
      where
        derived : Link
        derived = link.Derived b a x c walk

        p : Parted links derived
        p = parted links derived there

        alone : LinksLead j v v (derived ∷ []) → ⊥
        alone (from, is, to) = back.reason.0.0 (from ∙ sym to)

        go : (front behind : List Link) → links ≡ front ++ derived ∷ behind → length walk + 1 + 1 < most
        go [] [] is = absurd (alone (subst (LinksLead j v v) is cycle.1))
        go [] (l ∷ behind) is =
            omega (arith, few, ap cost is, cost_cons derived (l ∷ behind), cost_cons l behind, some_cost l, derived_cost b a x c walk)
        go (l ∷ front) behind is =
            omega (arith, few, ap cost is, cost_cons l (front ++ derived ∷ behind), cost_around front derived behind, some_cost l, derived_cost b a x c walk)

    closing : (b a : ℕ) (x : List ℕ) (c : ℕ) (walk : List Step) → Contains links (link.Derived b a x c walk) → IsBack b a x c walk
        → IsClosing j rank most b a (length walk + 1)
    closing b a x c walk there back = record {
      key = x;
      reader = c;
      walk = walk;
      reason = back.reason;
      aside = never (link.Derived b a x c walk) there;
      back = back.back;
      costs = refl;
      short = short b a x c walk there back;
    }

    -- links that lead down past a rank have a link of the cycle that does
    over : (u w at : ℕ) (some : List Link) → ((l : Link) → Contains some l → Contains links l) → LinksLead j u w some → at < rank u → rank w ≤ at
        → IsOver j rank most at
    over u w at some those lead high low =
        let (b, a, x, c, walk, there, reason, down, up) = crossing j rank rises u w at some lead high low in
        (b, a, length walk + 1, closing b a x c walk (those (link.Derived b a x c walk) there) (record { reason = reason; back = omega (arith, down, up) }), down, up)

    forward : (u w : ℕ) (some : List Link) → LinksLead j u w some → Climbs some → ((at : ℕ) → rank u ≤ at → at < rank w → IsOver j rank most at)
        → (n : ℕ) × IsForward j rank most u w n × (n ≤ cost some)
    forward u w [] lead climbs gaps = (0, inl (lead, refl), omega arith)
    forward u w (l ∷ []) (from, is, to) climbs gaps = go l from is to climbs.0
      where
        pair : (a b : ℕ) → a ≡ u → b ≡ w → IsCausalPair j.history a b → IsCausalPair j.history u w
        pair a b at_u at_w is_pair =
            subst (λ (z : ℕ). IsCausalPair j.history z w) at_u (subst (λ (z : ℕ). IsCausalPair j.history a z) at_w is_pair)

        go : (m : Link) → link_from m ≡ u → IsLink j m → link_to m ≡ w → rank (link_from m) < rank (link_to m)
            → (n : ℕ) × IsForward j rank most u w n × (n ≤ cost (m ∷ []))
        go (link.Session a b) from_a is to_b up = (1, inr (inl (pair a b from_a to_b (inl is), refl)), omega (arith, one_cost (link.Session a b), some_cost (link.Session a b)))
        go (link.Reads a b x) from_a is to_b up =
            (1, inr (inl (pair a b from_a to_b (inr (x, is)), refl)), omega (arith, one_cost (link.Reads a b x), some_cost (link.Reads a b x)))
        go (link.Derived b a x c walk) from_b is to_a up = (
          2,
          inr (inr ((omega (arith, up, ap rank from_b, ap rank to_a), gaps), refl)),
          omega (arith, one_cost (link.Derived b a x c walk), derived_cost b a x c walk, is.1.0.0),
        )
    forward u w (l ∷ m ∷ some) lead climbs gaps = (
      2,
      inr (inr ((omega (arith, climbed u w (l ∷ m ∷ some) lead climbs), gaps), refl)),
      omega (arith, cost_cons l (m ∷ some), cost_cons m some, some_cost l, some_cost m),
    )

    onward : (u w : ℕ) (some : List Link) → LinksLead j u w some → Climbs some → ((at : ℕ) → rank u ≤ at → at < rank w → IsOver j rank most at)
        → (n : ℕ) × IsOnward j rank most u w n × (n ≤ cost some)
    onward u w [] lead climbs gaps = (0, inl (lead, refl), omega arith)
    onward u w (l ∷ some) lead climbs gaps =
        (1, inr ((omega (arith, climbed u w (l ∷ some) lead climbs), gaps), refl), omega (arith, cost_cons l some, some_cost l))

    near : IsNear j rank most v
    near = go (first_back v v links cycle.1)
      where
        go : Climbs links ⊎ First v v links → IsNear j rank most v
        go (inl climbs) = absurd (omega (arith, climbed v v links cycle.1 climbs, cycle.0))
        go (inr f) = by (last_back f.a v f.rest f.goes)
          where
            derived : Link
            derived = link.Derived f.b f.a f.x f.c f.walk

            in_late : (l : Link) → Contains (derived ∷ f.rest) l → Contains links l
            in_late l listed = subst (λ (z : List Link). Contains z l) (sym f.is) (Contains-append_right f.front (derived ∷ f.rest) l listed)

            in_front : (l : Link) → Contains f.front l → Contains links l
            in_front l listed = subst (λ (z : List Link). Contains z l) (sym f.is) (Contains-append_left f.front (derived ∷ f.rest) l listed)

            costs : cost links ≡ cost f.front + ((length f.walk + 1) + cost f.rest)
            costs = omega (arith, ap cost f.is, cost_around f.front derived f.rest, derived_cost f.b f.a f.x f.c f.walk)

            to : (n : ℕ) × IsOnward j rank most v f.b n × (n ≤ cost f.front)
            to =
                onward v f.b f.front f.comes f.climbs
                (λ at low high. over f.b v at (derived ∷ f.rest) in_late (refl, f.back.reason, f.goes) high low)

            -- by the links from the first one that leads back to where the last one ends, and those forward from there
            found : (early behind : List Link) (u : ℕ) → f.rest ≡ early ++ behind → LinksLead j f.a u early → ((b : ℕ) × (price : ℕ) × IsClosing j rank most b u price)
                → LinksLead j u v behind → Climbs behind → IsNear j rank most v
            found early behind u is comes ended goes climbs = record {
              target = u;
              ended = ended;
              source = f.b;
              price = length f.walk + 1;
              begun = (f.a, closing f.b f.a f.x f.c f.walk (in_late derived (0, omega arith, refl)) f.back);
              comes = from.0;
              from = from.1;
              goes = to.0;
              to = to.1;
              few = omega (arith, from.2, to.2, costs, few, ap cost is, cost_append early behind);
            }
              where
                in_early : (l : Link) → Contains (f.front ++ derived ∷ early) l → Contains links l
                in_early l listed = by_part (Contains-append_cases f.front (derived ∷ early) l listed)
                  where
                    by_part : Contains f.front l ⊎ Contains (derived ∷ early) l → Contains links l
                    by_part (inl there) = in_front l there
                    by_part (inr there) =
                        in_late l (subst (λ (z : List Link). Contains (derived ∷ z) l) (sym is) (Contains-append_left (derived ∷ early) behind l there))

                from : (n : ℕ) × IsForward j rank most u v n × (n ≤ cost behind)
                from =
                    forward u v behind goes climbs
                    (λ at low high. over v u at (f.front ++ derived ∷ early) in_early
                    (lead_append j v f.b u f.front (derived ∷ early) f.comes (refl, f.back.reason, comes)) high low)

            by : Climbs f.rest ⊎ Last f.a v f.rest → IsNear j rank most v
            by (inl climbs) =
                found [] f.rest f.a refl refl (f.b, length f.walk + 1, closing f.b f.a f.x f.c f.walk (in_late derived (0, omega arith, refl)) f.back) f.goes climbs
            by (inr l) =
                found l.early l.behind l.a l.is l.comes (
                  l.b,
                  length l.walk + 1,
                  closing l.b l.a l.x l.c l.walk (
                      in_late (link.Derived l.b l.a l.x l.c l.walk) (
                      Contains-append_right (derived ∷ []) f.rest (link.Derived l.b l.a l.x l.c l.walk) (
                      subst (λ (z : List Link). Contains z (link.Derived l.b l.a l.x l.c l.walk)) (sym l.is)
                      (Contains-append_left l.early l.behind (link.Derived l.b l.a l.x l.c l.walk) l.listed)
                      )
                      )
                      ) l.back,
                ) l.goes l.climbs

  -- both ends of each link are near, as the cycle may as well begin there
  pub near_ends : (most v : ℕ) (links : List Link) → IsCycle j v links → ((l : Link) → Contains links l → link_to l ≢ 0) → cost links < most → (l : Link) → Contains links l
      → IsNear j rank most (link_from l) × IsNear j rank most (link_to l)
  near_ends most v links cycle never few l there = (
    near most (link_from l) ((l ∷ p.behind) ++ p.front)
        (omega arith, lead_append j (link_from l) v (link_from l) (l ∷ p.behind) p.front (refl, later.1, later.2) front)
        (λ d listed. never d (back_from d (Contains-append_cases (l ∷ p.behind) p.front d listed)))
        (omega (arith, few, costs, cost_append (l ∷ p.behind) p.front, cost_cons l p.behind)),
    near most (link_to l) (p.behind ++ (p.front ++ l ∷ []))
        (omega (arith, length-append p.behind (p.front ++ l ∷ []), length-append p.front (l ∷ [])), lead_append j (link_to l) v (link_to l) p.behind (p.front ++ l ∷ []) later.2 (lead_append j v (link_from l) (link_to l) p.front (l ∷ []) front (refl, later.1, refl)))
        (λ d listed. never d (back_to d (Contains-append_cases p.behind (p.front ++ l ∷ []) d listed)))
        (omega (arith, few, costs, cost_append p.behind (p.front ++ l ∷ []), cost_append p.front (l ∷ []), one_cost l)),
  )
    where
      p : Parted links l
      p = parted links l there

      split : (m : ℕ) × LinksLead j v m p.front × LinksLead j m v (l ∷ p.behind)
      split = lead_split j v v p.front (l ∷ p.behind) (subst (LinksLead j v v) p.is cycle.1)

      later : LinksLead j split.0 v (l ∷ p.behind)
      later = split.2

      front : LinksLead j v (link_from l) p.front
      front = subst (λ (z : ℕ). LinksLead j v z p.front) (sym later.0) split.1

      costs : cost links ≡ cost p.front + (link_cost l + cost p.behind)
      costs = ap cost p.is ∙ cost_around p.front l p.behind

      all : (d : Link) → Contains (p.front ++ l ∷ p.behind) d → Contains links d
      all d listed = subst (λ (z : List Link). Contains z d) (sym p.is) listed

      back_from : (d : Link) → Contains (l ∷ p.behind) d ⊎ Contains p.front d → Contains links d
      back_from d (inl listed) = all d (Contains-append_right p.front (l ∷ p.behind) d listed)
      back_from d (inr listed) = all d (Contains-append_left p.front (l ∷ p.behind) d listed)

      back_to : (d : Link) → Contains p.behind d ⊎ Contains (p.front ++ l ∷ []) d → Contains links d
      back_to d (inl listed) = all d (Contains-append_right p.front (l ∷ p.behind) d (Contains-append_right (l ∷ []) p.behind d listed))
      back_to d (inr listed) = go (Contains-append_cases p.front (l ∷ []) d listed)
        where
          go : Contains p.front d ⊎ Contains (l ∷ []) d → Contains links d
          go (inl early) = all d (Contains-append_left p.front (l ∷ p.behind) d early)
          go (inr one) = all d (Contains-append_right p.front (l ∷ p.behind) d (Contains-append_left (l ∷ []) p.behind d one))
