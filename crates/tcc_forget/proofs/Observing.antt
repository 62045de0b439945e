-- What a transaction has observed, and what leads to it, goes through the last one of its session or a listed writer that it reads from.
use Rattle.std.proofs.Common.{ℕ, zero, suc, ◌≡◌, ◌<◌, ◌≤◌, ◌⊎◌, inl, inr, List, [], ◌∷◌, Some, refl, sym, ap, subst, ◌∙◌, arith}
use Rattle.std.specs.List.{Contains}
use Rattle.std.proofs.lemmas.Bool.{cases_eq, cases_lt, cases_order}
use Rattle.tcc_reads.specs.History.{Entry, History, count, owner, place}
use Rattle.tcc_graph.specs.Levels.{causally}
use Rattle.tcc_graph.specs.Links.{IsLink, link_from, link_to}
use Rattle.tcc_graph.specs.Relations.{IsCausalPair, IsReadsPair, IsSessionPair}
use Rattle.tcc_graph.specs.Routes.{HasCycle, LinksLead}
use Rattle.tcc_graph.specs.Walks.{IsReached, IsWalk, Leads, step_from, step_to}
use Rattle.tcc_graph.specs.declared.step.Step.{Step}
use Rattle.tcc_graph.specs.declared.link.Link.{Link}
use Rattle.tcc_graph.specs.declared.link.Link.TheVariants as link
use Rattle.tcc_graph.proofs.Pairs.{PairParts, lower_first, pair_parts, step_pair}
use Rattle.tcc_graph.proofs.Walking.{pair_walk, reached_append}
use Rattle.tcc_watch.specs.Delivered.{IsDelivered, with_last}
use Rattle.tcc_watch.proofs.Arrived.{count_more, delivered_more, old_owner, reached_stays, reached_was}
use Rattle.tcc_watch.proofs.Rising.{pair_rises, read_rises, reached_rises, session_rises}
use Rattle.tcc_forget.specs.Cases.{Forgotten, IsRightBefore, LeadsBy, Observes, ReadsOutdated}
use Rattle.tcc_forget.specs.Covers.{ComesOn, Cover, Covers, HasObserved, IsKnown, IsLastOf, IsReadable, LeadsTo}
use Rattle.tcc_forget.proofs.Arriving.{pair_of_read, read_of_pair}
use Rattle.tcc_forget.proofs.Known.{last_observed, new_owner}
use Rattle.tcc_forget.proofs.Leading.{around, initial_leads, leads_join, reached_leads}
use Rattle.tcc_forget.proofs.Lists.{cases_readable}
use Rattle.tcc_forget.proofs.Made.{leads_by}

reached_on : (h : History) (a m b : ℕ) → IsReached h a m → HasObserved h m b → IsReached h a b
reached_on h a m b p (inl same) = subst (λ (z : ℕ). IsReached h a z) same p
reached_on h a m b p (inr q) = reached_append h a m b p q

-- the last pair of a walk
last_step : (h : History) (a b : ℕ) (s : Step) (steps : List Step) → Leads h a b (s ∷ steps) → (m : ℕ) × IsCausalPair h m b × HasObserved h a m
last_step h a b s [] p =
    (step_from s, subst (λ (z : ℕ). IsCausalPair h (step_from s) z) p.2 (step_pair h s p.1), inl (sym p.0))
last_step h a b s (r ∷ steps) p =
    let w = last_step h (step_to s) b r steps p.2 in
    let one = pair_walk h (step_from s) (step_to s) (step_pair h s p.1) in
    let first : IsReached h a (step_to s) = (one.0, subst (λ (z : ℕ). IsWalk h z (step_to s) one.0) p.0 one.1) in
    (w.0, w.1, inr (reached_on h a (step_to s) w.0 first w.2))

last_pair_of : (h : History) (a b : ℕ) → IsReached h a b → (m : ℕ) × IsCausalPair h m b × HasObserved h a m
last_pair_of h a b ([], (some, p)) = absurd (omega (arith, some))
last_pair_of h a b (s ∷ steps, (some, p)) = last_step h a b s steps p

-- the last link of a route
last_link : (h : History) (u v : ℕ) (l : Link) (links : List Link) → LinksLead (causally h) u v (l ∷ links)
    → (k : Link) × IsLink (causally h) k × (link_to k ≡ v) × LeadsTo h u (link_from k)
last_link h u v l [] p = (l, p.1, p.2, inl (sym p.0))
last_link h u v l (k ∷ links) p =
    let w = last_link h (link_to l) v k links p.2 in
    let first : LeadsTo h u (link_to l) = inr (l ∷ [], (omega arith, (p.0, p.1, refl))) in
    (w.0, w.1, w.2, leads_join h u (link_to l) (link_from w.0) first w.3)

module _ (h : History) (live : List ℕ) (cover : Cover) (e : Entry) (delivered : IsDelivered h) (covers : Covers h live cover)
    (on : ComesOn h live e) where
  abbrev g : History
  g = with_last h e

  abbrev t : ℕ
  t = count h

  known_through : (w : ℕ) → IsKnown h live w → (l : ℕ) × IsLastOf h e.owner l × HasObserved h w l
  known_through w known = known e.owner on.stays

  -- ---- the last of a session

  record IsGreatest (session k l : ℕ) : Type 0 where
    some : 0 < l
    below : l < k
    owned : owner h l ≡ session
    later : (n : ℕ) → l < n → n < k → owner h n ≡ session → ⊥

  abbrev HasNone : ℕ → ℕ → Type 0
  HasNone session k = (n : ℕ) → 0 < n → n < k → owner h n ≡ session → ⊥

  greatest : (session k : ℕ) → ((l : ℕ) × IsGreatest session k l) ⊎ HasNone session k
  greatest session zero = inr (λ n some below. absurd (omega (arith, below)))
  greatest session (suc k) = go (greatest session k) (cases_lt 0 k) (cases_eq (owner h k) session)
    where
      go : ((l : ℕ) × IsGreatest session k l) ⊎ HasNone session k → (0 < k) ⊎ (k ≤ 0) → (owner h k ≡ session) ⊎ (owner h k ≡ session → ⊥)
          → ((l : ℕ) × IsGreatest session (suc k) l) ⊎ HasNone session (suc k)
      go old (inl some) (inl owned) =
          inl (k, record { some = some; below = omega arith; owned = owned; later = λ n after below. absurd (omega (arith, after, below)) })
      go (inl (l, w)) (inl some) (inr other) =
          inl (l, record { some = w.some; below = omega (arith, w.below); owned = w.owned; later = λ n after below. later n after below (cases_eq n k) })
        where
          later : (n : ℕ) → l < n → n < suc k → (n ≡ k) ⊎ (n ≡ k → ⊥) → owner h n ≡ session → ⊥
          later n after below (inl same) owned = other (ap (λ z. owner h z) (sym same) ∙ owned)
          later n after below (inr apart) owned = w.later n after (omega (arith, below, apart)) owned
      go (inr none) (inl some) (inr other) = inr (λ n positive below. before n positive below (cases_eq n k))
        where
          before : (n : ℕ) → 0 < n → n < suc k → (n ≡ k) ⊎ (n ≡ k → ⊥) → owner h n ≡ session → ⊥
          before n positive below (inl same) owned = other (ap (λ z. owner h z) (sym same) ∙ owned)
          before n positive below (inr apart) owned = none n positive (omega (arith, below, apart)) owned
      go old (inr zeroth) any = inr (λ n positive below. absurd (omega (arith, positive, below, zeroth)))

  last_from : (session l : ℕ) → IsGreatest session t l → IsLastOf h session l
  last_from session l w = record { some = w.some; below = w.below; owned = w.owned; last = λ n some below owned. upto n some below owned (cases_order n l) }
    where
      upto : (n : ℕ) → 0 < n → n < count h → owner h n ≡ session → (n ≡ l) ⊎ ((n < l) ⊎ (l < n)) → place h n ≤ place h l
      upto n some below owned (inl same) = let is = ap (λ z. place h z) same in omega (arith, is)
      upto n some below owned (inr (inl before)) = omega (arith, delivered.sessions n l some before w.below (owned ∙ sym w.owned))
      upto n some below owned (inr (inr after)) = absurd (w.later n after below owned)

  -- one of the session is its last, or that has observed it
  to_last : (m : ℕ) → 0 < m → m < t → owner h m ≡ e.owner → (l : ℕ) × IsLastOf h e.owner l × HasObserved h m l
  to_last m some below owned = go (greatest e.owner t)
    where
      go : ((l : ℕ) × IsGreatest e.owner t l) ⊎ HasNone e.owner t → (l : ℕ) × IsLastOf h e.owner l × HasObserved h m l
      go (inl (l, w)) = (l, last_from e.owner l w, upto (cases_order m l))
        where
          upto : (m ≡ l) ⊎ ((m < l) ⊎ (l < m)) → HasObserved h m l
          upto (inl same) = inl same
          upto (inr (inl before)) =
              let same : owner h m ≡ owner h l = owned ∙ sym w.owned in
              let pair = pair_walk h m l (inl (lower_first h m l some below w.some w.below same (delivered.sessions m l some before w.below same))) in
              inr (pair.0, pair.1)
          upto (inr (inr after)) = absurd (w.later m after below owned)
      go (inr none) = absurd (none m some below owned)

  -- ---- what goes through a pair into the transaction

  forgotten : (x : List ℕ) (m : ℕ) → Contains e.reads (x, m) → 0 < m → (IsReadable (cover x) m → ⊥) → ReadsOutdated h e cover
  forgotten x m there some neither = (x, m, there, Forgotten some neither)

  module _ (Bad : Type 0) (bad : (x : List ℕ) (m : ℕ) → Contains e.reads (x, m) → 0 < m → (IsReadable (cover x) m → ⊥) → Bad) (R : ℕ → ℕ → Type 0) (u : ℕ) (on_to : (m l : ℕ) → R u m → HasObserved h m l → R u l) (not_init : R u 0 → Bad) where
    abbrev Through : Type 0
    Through = Bad ⊎ ((p : ℕ) × IsRightBefore h e cover p × R u p)

    by_init : (m : ℕ) → m ≤ 0 → R u m → Through
    by_init m none r = let zeroth : m ≡ 0 = omega (arith, none) in inl (not_init (subst (λ (z : ℕ). R u z) zeroth r))

    by_last : (m : ℕ) → (l : ℕ) × IsLastOf h e.owner l × HasObserved h m l → R u m → Through
    by_last m (l, last, observed) r = inr (l, inl last, on_to m l r observed)

    through : (m : ℕ) → IsCausalPair g m t → R u m → Through
    through m (inl session) r = go (cases_lt 0 m)
      where
        w : PairParts g m t
        w = pair_parts g m t session

        before : m < t
        before = session_rises g (delivered_more h e delivered on.may) m t session

        go : (0 < m) ⊎ (m ≤ 0) → Through
        go (inl some) =
            by_last m (to_last m some before (sym (old_owner h e m before) ∙ w.same some ∙ new_owner h live e delivered on)) r
        go (inr none) = by_init m none r
    through m (inr (x, reads)) r = go (cases_readable (cover x) m) (cases_lt 0 m)
      where
        there : Contains e.reads (x, m)
        there = read_of_pair h e x m reads

        go : Contains (cover x).listed m ⊎ (((cover x).top ≡ Some m) ⊎ (IsReadable (cover x) m → ⊥)) → (0 < m) ⊎ (m ≤ 0) → Through
        go (inl listed) any = inr (m, inr (x, there, listed), r)
        go (inr (inl top)) any = by_last m (known_through m ((covers x).known m top)) r
        go (inr (inr neither)) (inl some) = inl (bad x m there some neither)
        go (inr (inr neither)) (inr none) = by_init m none r

  observed_was : (u m : ℕ) → m < t → HasObserved g u m → HasObserved h u m
  observed_was u m below (inl same) = inl same
  observed_was u m below (inr reached) = inr (reached_was h e delivered on.may u m below reached)

  observed_on : (u m l : ℕ) → HasObserved h u m → HasObserved h m l → HasObserved h u l
  observed_on u m l (inl same) q = subst (λ (z : ℕ). HasObserved h z l) (sym same) q
  observed_on u m l (inr p) (inl same) = inr (subst (λ (z : ℕ). IsReached h u z) same p)
  observed_on u m l (inr p) (inr q) = inr (reached_append h u m l p q)

  pub observes : (u : ℕ) → 0 < u → Observes h e u → ReadsOutdated h e cover ⊎ ((p : ℕ) × IsRightBefore h e cover p × HasObserved h u p)
  observes u some observed =
      let w = last_pair_of g u t observed in
      let before : w.0 < t = pair_rises g (delivered_more h e delivered on.may) w.0 t w.1 in
      through (ReadsOutdated h e cover) forgotten (λ a b. HasObserved h a b) u (λ m l p q. observed_on u m l p q) none w.0 w.1 (observed_was u w.0 before w.2)
    where
      none : HasObserved h u 0 → ReadsOutdated h e cover
      none (inl same) = absurd (omega (arith, same, some))
      none (inr reached) = absurd (omega (arith, reached_rises h delivered u 0 reached))

  -- where all that it reads may still be read, or is `init`
  pub observes_readable : ((x : List ℕ) (m : ℕ) → Contains e.reads (x, m) → 0 < m → (IsReadable (cover x) m → ⊥) → ⊥) → (u : ℕ) → 0 < u → Observes h e u
      → (p : ℕ) × IsRightBefore h e cover p × HasObserved h u p
  observes_readable readable u some observed =
      let w = last_pair_of g u t observed in
      let before : w.0 < t = pair_rises g (delivered_more h e delivered on.may) w.0 t w.1 in
      go (through ⊥ readable (λ a b. HasObserved h a b) u (λ m l p q. observed_on u m l p q) none w.0 w.1 (observed_was u w.0 before w.2))
    where
      none : HasObserved h u 0 → ⊥
      none (inl same) = absurd (omega (arith, same, some))
      none (inr reached) = absurd (omega (arith, reached_rises h delivered u 0 reached))

      go : ⊥ ⊎ ((p : ℕ) × IsRightBefore h e cover p × HasObserved h u p) → (p : ℕ) × IsRightBefore h e cover p × HasObserved h u p
      go (inl impossible) = absurd impossible
      go (inr found) = found

  pub right_before : (u p : ℕ) → IsRightBefore h e cover p → HasObserved h u p → Observes h e u
  right_before u p before observed = on_from observed (sees before)
    where
      sees : IsRightBefore h e cover p → Observes h e p
      sees (inl last) = last_observed h live e delivered on p last
      sees (inr (x, read, listed)) = let w = pair_walk g p t (inr (x, pair_of_read h e x p on.may read)) in (w.0, w.1)

      on_from : HasObserved h u p → Observes h e p → Observes h e u
      on_from (inl same) q = subst (λ (z : ℕ). Observes h e z) (sym same) q
      on_from (inr reached) q = reached_append g u p t (reached_stays h e u p reached) q

  -- ---- routes into the transaction

  module _ (none : HasCycle (causally h) → ⊥) where
    not_back : (a : ℕ) → 0 < a → a < t → LeadsTo h a 0 → ⊥
    not_back a some below (inl same) = absurd (omega (arith, same, some))
    not_back a some below (inr route) = none (around h a 0 route (inr (initial_leads h a some below)))

    not_by : (u : ℕ) (made : List (ℕ × ℕ)) → 0 < u → u < t → LeadsBy h e cover u 0 made → ⊥
    not_by u [] some below leads = not_back u some below leads
    not_by u (m ∷ more) some below (before, is, after) =
        let here = covers is.key in not_by m.1 more (here.some m.1 (inl is.to)) (here.written m.1 (inl is.to)).0 after

    pair_into : (k : Link) → IsLink (causally g) k → link_to k ≡ t → IsCausalPair g (link_from k) t
    pair_into (link.Session a b) p is = inl (subst (λ (z : ℕ). IsSessionPair g a z) is p)
    pair_into (link.Reads a b x) p is = inr (x, subst (λ (z : ℕ). IsReadsPair g a z x) is p)
    pair_into (link.Derived b a x c walk) p is =
        let low : a < c = read_rises g (delivered_more h e delivered on.may) a c x p.0.1 in
        absurd (omega (arith, low, is, p.0.1.1, count_more h e))

    pub leads_through : (u : ℕ) → 0 < u → u < t → LeadsTo g u t → ReadsOutdated h e cover ⊎ ((p : ℕ) × IsRightBefore h e cover p × LeadsTo g u p)
    leads_through u some below (inl same) = absurd (omega (arith, same, below))
    leads_through u some below (inr ([], (long, p))) = absurd (omega (arith, long))
    leads_through u some below (inr (l ∷ links, (long, p))) =
        let w = last_link g u t l links p in
        through (ReadsOutdated h e cover) forgotten (λ a b. LeadsTo g a b) u (λ m k q observed. leads_join g u m k q (observed_leads m k observed)) no_init (link_from w.0)
        (pair_into w.0 w.1 w.2) w.3
      where
        observed_leads : (m k : ℕ) → HasObserved h m k → LeadsTo g m k
        observed_leads m k (inl same) = inl same
        observed_leads m k (inr reached) = inr (reached_leads g m k (reached_stays h e m k reached))

        no_init : LeadsTo g u 0 → ReadsOutdated h e cover
        no_init q = go (leads_by h live cover e delivered covers on u 0 delivered.some q)
          where
            go : ReadsOutdated h e cover ⊎ ((made : List (ℕ × ℕ)) × LeadsBy h e cover u 0 made) → ReadsOutdated h e cover
            go (inl bad) = bad
            go (inr (made, by)) = absurd (not_by u made some below by)
