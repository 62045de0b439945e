-- Where no read of a transaction contradicts a cover, what it brings follows from its pairs and from links between listed writers.
use Rattle.std.proofs.Common.{ℕ, ◌≡◌, ◌<◌, ◌≤◌, ◌⊎◌, inl, inr, List, [], ◌∷◌, ◌++◌, Some, length, refl, subst, arith}
use Rattle.std.specs.List.{Contains}
use Rattle.std.proofs.lemmas.Bool.{cases_eq, cases_lt}
use Rattle.tcc_reads.specs.History.{Entry, History, count}
use Rattle.tcc_graph.specs.Levels.{causally}
use Rattle.tcc_graph.specs.Links.{IsLink, IsReason, link_from, link_to}
use Rattle.tcc_graph.specs.Keys.{IsWriter}
use Rattle.tcc_graph.specs.Routes.{HasCycle, LinksLead}
use Rattle.tcc_graph.specs.declared.step.Step.{Step}
use Rattle.tcc_graph.specs.declared.link.Link.{Link}
use Rattle.tcc_graph.specs.declared.link.Link.TheVariants as link
use Rattle.tcc_graph.specs.declared.level.Level.TheVariants as level
use Rattle.tcc_watch.specs.Delivered.{IsBy, IsDelivered, with_last}
use Rattle.tcc_watch.proofs.Arrived.{delivered_more, new_link}
use Rattle.tcc_watch.proofs.NoCycle.{routed_link}
use Rattle.tcc_watch.proofs.Rising.{reached_rises}
use Rattle.tcc_watch.specs.private.Rows.{IsRouted}
use Rattle.tcc_forget.specs.Cases.{ClosesCircle, Forgotten, Initial, IsMade, IsOutdated, LeadsBy, Observes, Passed, ReadsOutdated}
use Rattle.tcc_forget.specs.Covers.{ComesOn, Cover, Covers, IsCover, IsKnown, IsReadable, LeadsTo}
use Rattle.tcc_forget.proofs.Arriving.{begins_before, pair_of_read, read_of_pair, writer_stays, writer_was}
use Rattle.tcc_forget.proofs.Known.{known_observed}
use Rattle.tcc_forget.proofs.Leading.{apart_routed, around, derived_link, initial_leads, leads_join, leads_stay, routed_on}
use Rattle.tcc_forget.proofs.Lists.{cases_readable, some_is}

module _ (h : History) (live : List ℕ) (cover : Cover) (e : Entry) (delivered : IsDelivered h) (covers : Covers h live cover)
    (on : ComesOn h live e) where
  abbrev g : History
  g = with_last h e

  abbrev t : ℕ
  t = count h

  -- ---- the links that are made are links

  made_link : (b a : ℕ) → IsMade h e cover b a → IsRouted (causally g) b a
  made_link b a m =
      derived_link g b a t m.key m.apart (pair_of_read h e m.key a on.may m.read)
      (writer_stays h e b m.key ((covers m.key).written b (inl m.from))) m.observed

  pub made_leads : (u v : ℕ) (made : List (ℕ × ℕ)) → LeadsBy h e cover u v made → LeadsTo g u v
  made_leads u v [] p = leads_stay h e u v p
  made_leads u v (m ∷ more) (before, is, after) =
      leads_join g u m.0 v (leads_stay h e u m.0 before) (leads_join g m.0 m.1 v (inr (made_link m.0 m.1 is)) (made_leads m.1 v more after))

  pub circle_cycle : ClosesCircle h e cover → HasCycle (causally g)
  circle_cycle (s, [], some, p) = absurd (omega (arith, some))
  circle_cycle (s, m ∷ more, some, (before, is, after)) =
      around g m.0 m.1 (made_link m.0 m.1 is) (leads_join g m.1 s m.0 (made_leads m.1 s more after) (leads_stay h e s m.0 before))

  -- ---- what leads by them, one after the other

  pub by_join : (u v w : ℕ) (p q : List (ℕ × ℕ)) → LeadsBy h e cover u v p → LeadsBy h e cover v w q → LeadsBy h e cover u w (p ++ q)
  by_join u v w [] [] a b = leads_join h u v w a b
  by_join u v w [] (m ∷ q) a (before, is, after) = (leads_join h u v m.0 a before, is, after)
  by_join u v w (m ∷ p) q (before, is, after) b = (before, is, by_join m.1 v w p q after b)

  -- a route: it has a made link, or was there
  abbrev Follows : ℕ → ℕ → Type 0
  Follows u v = (made : List (ℕ × ℕ)) × LeadsBy h e cover u v made × ((0 < length made) ⊎ IsRouted (causally h) u v)

  follows_join : (u v w : ℕ) → Follows u v → (q : List (ℕ × ℕ)) → LeadsBy h e cover v w q → Follows u w
  follows_join u v w ([], a, inl some) q b = absurd (omega (arith, some))
  follows_join u v w ([], a, inr routed) [] b = ([], leads_join h u v w a b, inr (routed_on h u v w routed b))
  follows_join u v w ([], a, inr routed) (m ∷ q) b = (m ∷ q, by_join u v w [] (m ∷ q) a b, inl (omega arith))
  follows_join u v w (m ∷ p, a, any) q b = (m ∷ p ++ q, by_join u v w (m ∷ p) q a b, inl (omega arith))

  was_there : (u v : ℕ) → IsRouted (causally h) u v → ReadsOutdated h e cover ⊎ Follows u v
  was_there u v p = inr ([], inr p, inr p)

  leads_there : (u v : ℕ) → (u ≡ v → ⊥) → LeadsTo h u v → ReadsOutdated h e cover ⊎ Follows u v
  leads_there u v apart p = was_there u v (apart_routed h u v p apart)

  -- ---- the links of a read

  module _ (x : List ℕ) (a b : ℕ) (read : Contains e.reads (x, a)) (apart : b ≡ a → ⊥) (writer : IsWriter h b x) (observed : Observes h e b) where
    abbrev here : IsCover h live x (cover x)
    here = covers x

    outdated : IsOutdated h e (cover x) a → ReadsOutdated h e cover ⊎ Follows b a
    outdated is = inl (x, a, read, is)

    made_by : Contains (cover x).listed a → (b' : ℕ) → Contains (cover x).listed b' → (b' ≡ a → ⊥) → Observes h e b' → LeadsTo h b b'
        → ReadsOutdated h e cover ⊎ Follows b a
    made_by to b' from not_a sees leads =
        inr ((b', a) ∷ [], (leads, record { key = x; read = read; to = to; from = from; apart = not_a; observed = sees }, inl refl), inl (omega arith))

    -- the source is listed
    listed : Contains (cover x).listed a → ReadsOutdated h e cover ⊎ Follows b a
    listed to = go (cases_lt 0 b) (cases_readable (cover x) b)
      where
        by : (c : ℕ) → IsReadable (cover x) c → IsKnown h live c → LeadsTo h b c → (c ≡ a) ⊎ (c ≡ a → ⊥) → ReadsOutdated h e cover ⊎ Follows b a
        by c readable known leads (inl same) = leads_there b a apart (subst (λ (z : ℕ). LeadsTo h b z) same leads)
        by c (inl there) known leads (inr not_a) = made_by to c there not_a (known_observed h live e delivered on c known) leads
        by c (inr top) known leads (inr not_a) = leads_there b a apart (leads_join h b c a leads (here.onward c a top to))

        go : (0 < b) ⊎ (b ≤ 0) → Contains (cover x).listed b ⊎ (((cover x).top ≡ Some b) ⊎ (IsReadable (cover x) b → ⊥))
            → ReadsOutdated h e cover ⊎ Follows b a
        go (inr none) any =
            let zeroth : 0 ≡ b = omega (arith, none) in
            was_there b a (subst (λ (z : ℕ). IsRouted (causally h) z a) zeroth (initial_leads h a (here.some a (inl to)) (here.written a (inl to)).0))
        go (inl some) (inl from) = made_by to b from apart observed (inl refl)
        go (inl some) (inr (inl top)) = leads_there b a apart (here.onward b a top to)
        go (inl some) (inr (inr neither)) = let w = here.covered b some writer neither in by w.0 w.1 w.2 w.3 (cases_eq w.0 a)

    -- it is the top
    top_read : (Contains (cover x).listed a → ⊥) → (cover x).top ≡ Some a → ReadsOutdated h e cover ⊎ Follows b a
    top_read unlisted is = go (cases_lt 0 b) (cases_readable (cover x) b)
      where
        by : (c : ℕ) → IsReadable (cover x) c → IsKnown h live c → LeadsTo h b c → ReadsOutdated h e cover ⊎ Follows b a
        by c (inl there) known leads = outdated (Passed c unlisted there (known_observed h live e delivered on c known))
        by c (inr top) known leads = leads_there b a apart (subst (λ (z : ℕ). LeadsTo h b z) (some_is c a (cover x).top top is) leads)

        go : (0 < b) ⊎ (b ≤ 0) → Contains (cover x).listed b ⊎ (((cover x).top ≡ Some b) ⊎ (IsReadable (cover x) b → ⊥))
            → ReadsOutdated h e cover ⊎ Follows b a
        go (inr none) any =
            let zeroth : 0 ≡ b = omega (arith, none) in
            was_there b a (subst (λ (z : ℕ). IsRouted (causally h) z a) zeroth (initial_leads h a (here.some a (inr is)) (here.written a (inr is)).0))
        go (inl some) (inl from) = outdated (Passed b unlisted from observed)
        go (inl some) (inr (inl top)) = absurd (apart (some_is b a (cover x).top top is))
        go (inl some) (inr (inr neither)) = let w = here.covered b some writer neither in by w.0 w.1 w.2 w.3

    -- it is `init`
    initial_read : (Contains (cover x).listed a → ⊥) → a ≡ 0 → ReadsOutdated h e cover ⊎ Follows b a
    initial_read unlisted is = go (cases_readable (cover x) b)
      where
        some : 0 < b
        some = go0 (cases_lt 0 b)
          where
            go0 : (0 < b) ⊎ (b ≤ 0) → 0 < b
            go0 (inl more) = more
            go0 (inr none) = absurd (apart (omega (arith, none, is)))

        by : (c : ℕ) → IsReadable (cover x) c → IsKnown h live c → ReadsOutdated h e cover ⊎ Follows b a
        by c (inl there) known = outdated (Passed c unlisted there (known_observed h live e delivered on c known))
        by c (inr top) known = outdated (Initial c is top)

        go : Contains (cover x).listed b ⊎ (((cover x).top ≡ Some b) ⊎ (IsReadable (cover x) b → ⊥)) → ReadsOutdated h e cover ⊎ Follows b a
        go (inl from) = outdated (Passed b unlisted from observed)
        go (inr (inl top)) = outdated (Initial b is top)
        go (inr (inr neither)) = let w = here.covered b some writer neither in by w.0 w.1 w.2

    read_follows : ReadsOutdated h e cover ⊎ Follows b a
    read_follows = go (cases_readable (cover x) a) (cases_lt 0 a)
      where
        go : Contains (cover x).listed a ⊎ (((cover x).top ≡ Some a) ⊎ (IsReadable (cover x) a → ⊥)) → (0 < a) ⊎ (a ≤ 0)
            → ReadsOutdated h e cover ⊎ Follows b a
        go (inl to) any = listed to
        go (inr (inl is)) any = top_read (here.unlisted a is) is
        go (inr (inr neither)) (inl some) = outdated (Forgotten some neither)
        go (inr (inr neither)) (inr none) = initial_read (λ there. neither (inl there)) (omega (arith, none))

  -- ---- each link that ends before the transaction that comes

  reason_follows : (b a : ℕ) (x : List ℕ) (walk : List Step) → IsReason (causally g) b a x t walk → ReadsOutdated h e cover ⊎ Follows b a
  reason_follows b a x walk ((apart, reads, writer), (path, allowed)) =
      let below : b < count h = reached_rises g (delivered_more h e delivered on.may) b t (walk, path) in
      read_follows x a b (read_of_pair h e x a reads) apart (writer_was h e b x below writer) (walk, path)

  link_follows : (l : Link) → IsLink (causally g) l → link_to l < count h → ReadsOutdated h e cover ⊎ Follows (link_from l) (link_to l)
  link_follows l is before = go l is before (new_link h e delivered on.may level.Causal l is)
    where
      go : (l : Link) → IsLink (causally g) l → link_to l < count h → IsLink (causally h) l ⊎ IsBy (count h) l
          → ReadsOutdated h e cover ⊎ Follows (link_from l) (link_to l)
      go l is before (inl old) = was_there (link_from l) (link_to l) (routed_link (causally h) l old)
      go (link.Session a b) is before (inr new) = absurd (omega (arith, before, new))
      go (link.Reads a b x) is before (inr new) = absurd (omega (arith, before, new))
      go (link.Derived b a x c walk) is before (inr new) = reason_follows b a x walk (subst (λ (z : ℕ). IsReason (causally g) b a x z walk) new is)

  -- ---- and so routes that end before it

  lead_below : (u v : ℕ) (links : List Link) → LinksLead (causally g) u v links → v < count h → u < count h
  lead_below u v [] p below = omega (arith, p, below)
  lead_below u v (l ∷ links) p below = omega (arith, p.0, begins_before h e delivered on.may l p.1)

  by_follows : (u v : ℕ) → ReadsOutdated h e cover ⊎ Follows u v → ReadsOutdated h e cover ⊎ ((made : List (ℕ × ℕ)) × LeadsBy h e cover u v made)
  by_follows u v (inl bad) = inl bad
  by_follows u v (inr (made, leads, any)) = inr (made, leads)

  join_all : (u v w : ℕ) → ReadsOutdated h e cover ⊎ Follows u v → ReadsOutdated h e cover ⊎ ((made : List (ℕ × ℕ)) × LeadsBy h e cover v w made)
      → ReadsOutdated h e cover ⊎ Follows u w
  join_all u v w (inl bad) q = inl bad
  join_all u v w (inr p) (inl bad) = inl bad
  join_all u v w (inr p) (inr (made, leads)) = inr (follows_join u v w p made leads)

  lead_follows : (u v : ℕ) (l : Link) (links : List Link) → LinksLead (causally g) u v (l ∷ links) → v < count h → ReadsOutdated h e cover ⊎ Follows u v
  lead_follows u v l [] p below =
      subst (λ (z : ℕ). ReadsOutdated h e cover ⊎ Follows z v) p.0
      (subst (λ (z : ℕ). ReadsOutdated h e cover ⊎ Follows (link_from l) z) p.2 (link_follows l p.1 (omega (arith, p.2, below))))
  lead_follows u v l (k ∷ links) p below =
      subst (λ (z : ℕ). ReadsOutdated h e cover ⊎ Follows z v) p.0
      (join_all (link_from l) (link_to l) v (link_follows l p.1 (lead_below (link_to l) v (k ∷ links) p.2 below))
      (by_follows (link_to l) v (lead_follows (link_to l) v k links p.2 below)))

  pub leads_by : (u v : ℕ) → v < count h → LeadsTo g u v → ReadsOutdated h e cover ⊎ ((made : List (ℕ × ℕ)) × LeadsBy h e cover u v made)
  leads_by u v below (inl same) = inr ([], inl same)
  leads_by u v below (inr ([], (some, p))) = absurd (omega (arith, some))
  leads_by u v below (inr (l ∷ links, (some, p))) = by_follows u v (lead_follows u v l links p below)

  pub cycle_by : (HasCycle (causally h) → ⊥) → HasCycle (causally g) → ReadsOutdated h e cover ⊎ ClosesCircle h e cover
  cycle_by none (s, [], (some, p)) = absurd (omega (arith, some))
  cycle_by none (s, l ∷ links, (some, p)) = go (lead_follows s s l links p below)
    where
      below : s < count h
      below = omega (arith, p.0, begins_before h e delivered on.may l p.1)

      go : ReadsOutdated h e cover ⊎ Follows s s → ReadsOutdated h e cover ⊎ ClosesCircle h e cover
      go (inl bad) = inl bad
      go (inr (made, leads, inl more)) = inr (s, made, more, leads)
      go (inr (made, leads, inr (back, route))) = absurd (none (s, back, route))
