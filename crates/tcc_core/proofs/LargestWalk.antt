-- The longest walk of a least cycle's link: it begins at most two steps at transactions of one session.
use Rattle.std.proofs.Common.{ℕ, ◌≡◌, ◌≢◌, ◌<◌, ◌≤◌, ◌+◌, ◌*◌, ◌⊎◌, inl, inr, Bool, true, false, cond}
use Rattle.std.proofs.Common.{List, [], ◌∷◌, ◌++◌, length, length-append, refl, sym, ◌∙◌, ap, subst}
use Rattle.std.proofs.Common.{arith}
use Rattle.std.specs.List.{AllByRecursion}
use Rattle.std.proofs.lemmas.Bool.{cases_eq}
use Rattle.tcc_txn.specs.declared.limits.TheConstants.{MAX_SESSIONS}
use Rattle.tcc_reads.specs.History.{owner}
use Rattle.tcc_graph.specs.Relations.{session_pair, IsSessionPair}
use Rattle.tcc_graph.specs.Walks.{step_from, step_to, IsStep, Leads, IsWalk}
use Rattle.tcc_graph.specs.Levels.{Judged}
use Rattle.tcc_graph.specs.Links.{cost}
use Rattle.tcc_graph.specs.Routes.{LinksLead, IsCycle}
use Rattle.tcc_graph.specs.declared.step.Step.{Step}
use Rattle.tcc_graph.specs.declared.step.Step.TheVariants as step
use Rattle.tcc_graph.specs.declared.link.Link.{Link}
use Rattle.tcc_graph.proofs.Pairs.{step_pair, step_below}
use Rattle.tcc_graph.proofs.Walking.{leads_append, leads_split, walk_below}
use Rattle.tcc_graph.proofs.Linking.{pair_link, cost_cons}
use Rattle.tcc_core.proofs.Twice.{HasTwice, always, few_or_twice}
use Rattle.tcc_graph.proofs.Pairs.{pair_parts, initial_pair}
use Rattle.tcc_core.proofs.SessionLemmas.{IsPlaced, pair_on, either_way}
use Rattle.tcc_core.proofs.BoundLemmas.{shorter}

-- numbers for session and mark determine both
pub told_apart : (x y : ℕ) (p q : Bool) → x < MAX_SESSIONS → y < MAX_SESSIONS → x + cond p MAX_SESSIONS 0 ≡ y + cond q MAX_SESSIONS 0 → (x ≡ y) × (p ≡ q)
told_apart x y true true l m e = (omega arith, refl)
told_apart x y true false l m e = absurd (omega arith)
told_apart x y false true l m e = absurd (omega arith)
told_apart x y false false l m e = (omega arith, refl)

pub marked_below : (x : ℕ) (p : Bool) → x < MAX_SESSIONS → x + cond p MAX_SESSIONS 0 < 2 * MAX_SESSIONS
marked_below x true l = omega arith
marked_below x false l = omega arith

-- a walk as links
pub links_of : (j : Judged) (a b : ℕ) (walk : List Step) → Leads j.history a b walk
    → (links : List Link) × LinksLead j a b links × (cost links ≡ length walk) × (length links ≡ length walk)
links_of j a b [] leads = ([], leads, refl, refl)
links_of j a b (s ∷ walk) leads =
    let (l, from, to, is, one) = pair_link j (step_from s) (step_to s) (step_pair j.history s leads.1) in
    let (links, lead, costs, long) = links_of j (step_to s) b walk leads.2 in
    (l ∷ links, (from ∙ leads.0, is, subst (λ (z : ℕ). LinksLead j z b links) (sym to) lead), omega (arith, cost_cons l links), omega arith)

module _ (j : Judged) (placed : IsPlaced j.history MAX_SESSIONS) where
  step_some : (s : Step) → IsStep j.history s → 0 < step_to s
  step_some (step.Session a b) is = (pair_parts j.history a b is).some
  step_some (step.Reads a b x) is = go (cases_eq b 0)
    where
      go : (b ≡ 0) ⊎ (b ≢ 0) → 0 < b
      go (inl none) = absurd (placed.unread a x (rw none at is))
      go (inr some) = omega arith

  leads_some : (a b : ℕ) (walk : List Step) → 0 < a → Leads j.history a b walk → 0 < b
  leads_some a b [] some leads = omega arith
  leads_some a b (s ∷ walk) some leads = leads_some (step_to s) b walk (step_some s leads.1) leads.2

  -- the session of a step's start, and whether the step stays in it
  step_number : Step → ℕ
  step_number s = owner j.history (step_from s) + cond (session_pair j.history (step_from s) (step_to s)) MAX_SESSIONS 0

  numbers_below : (a b : ℕ) (walk : List Step) → 0 < a → Leads j.history a b walk → AllByRecursion (λ s. step_number s < 2 * MAX_SESSIONS) walk
  unfolding step_number
  numbers_below a b [] some leads = tt
  numbers_below a b (s ∷ walk) some leads =
      let ends = step_below j.history s leads.1 in (
        marked_below (owner j.history (step_from s)) (session_pair j.history (step_from s) (step_to s))
            (placed.owned (step_from s) (omega (arith, leads.0)) ends.0),
        numbers_below (step_to s) b walk (step_some s leads.1) leads.2,
      )

  module _ (b c : ℕ) (walk : List Step) (is : IsWalk j.history b c walk)
      (least : (others : List Step) → IsWalk j.history b c others → length walk ≤ length others)
      (low : (t : ℕ) (others : List Link) → IsCycle j t others → length walk < cost others) where
    module _ (some : 0 < b) (t : HasTwice step_number always walk) where
      whole : IsWalk j.history b c (t.front ++ t.one ∷ (t.middle ++ t.other ∷ t.rest))
      whole = subst (λ (w : List Step). IsWalk j.history b c w) t.split is

      long : length walk ≡ length t.front + (length t.middle + (length t.rest + 2))
      long =
          let same : length walk ≡ length (t.front ++ t.one ∷ (t.middle ++ t.other ∷ t.rest)) = ap length t.split in
          omega (arith, same, length-append t.front (t.one ∷ (t.middle ++ t.other ∷ t.rest)), length-append t.middle (t.other ∷ t.rest))

      front_parts : (m : ℕ) × Leads j.history b m t.front × Leads j.history m c (t.one ∷ (t.middle ++ t.other ∷ t.rest))
      front_parts = leads_split j.history b c t.front (t.one ∷ (t.middle ++ t.other ∷ t.rest)) whole.1

      one_leads : Leads j.history (step_from t.one) c (t.one ∷ (t.middle ++ t.other ∷ t.rest))
      one_leads = let (m, before, on) = front_parts in (refl, on.1, on.2)

      front_leads : Leads j.history b (step_from t.one) t.front
      front_leads = let (m, before, on) = front_parts in subst (λ (z : ℕ). Leads j.history b z t.front) (sym on.0) before

      middle_parts : (k : ℕ) × Leads j.history (step_to t.one) k t.middle × Leads j.history k c (t.other ∷ t.rest)
      middle_parts = leads_split j.history (step_to t.one) c t.middle (t.other ∷ t.rest) one_leads.2

      middle_leads : Leads j.history (step_to t.one) (step_from t.other) t.middle
      middle_leads = let (k, between, last) = middle_parts in subst (λ (z : ℕ). Leads j.history (step_to t.one) z t.middle) (sym last.0) between

      other_leads : Leads j.history (step_from t.other) c (t.other ∷ t.rest)
      other_leads = let (k, between, last) = middle_parts in (refl, last.1, last.2)

      one_some : 0 < step_from t.one
      one_some = leads_some b (step_from t.one) t.front some front_leads

      other_some : 0 < step_from t.other
      other_some = leads_some (step_to t.one) (step_from t.other) t.middle (step_some t.one one_leads.1) middle_leads

      alike : (owner j.history (step_from t.one) ≡ owner j.history (step_from t.other))
          × (session_pair j.history (step_from t.one) (step_to t.one) ≡ session_pair j.history (step_from t.other) (step_to t.other))
      unfolding step_number
      alike =
          told_apart (owner j.history (step_from t.one)) (owner j.history (step_from t.other)) (session_pair j.history (step_from t.one) (step_to t.one))
          (session_pair j.history (step_from t.other) (step_to t.other))
          (placed.owned (step_from t.one) one_some (step_below j.history t.one one_leads.1).0)
          (placed.owned (step_from t.other) other_some (step_below j.history t.other other_leads.1).0) t.same

      differ : step_from t.one ≢ step_from t.other
      differ same =
          let few : length walk ≤ length (t.front ++ t.other ∷ t.rest) =
          least (t.front ++ t.other ∷ t.rest) (shorter j.history b c t.front t.one t.middle t.other t.rest same whole) in
          absurd (omega (arith, few, long, length-append t.front (t.other ∷ t.rest)))

      -- a session step in place of the steps between
      straight : (v : ℕ) (steps : List Step) → IsSessionPair j.history (step_from t.one) v → Leads j.history v c steps
          → length walk ≤ length t.front + (1 + length steps)
      straight v steps pair leads =
          let new : List Step = t.front ++ step.Session (step_from t.one) v ∷ steps in
          let size : length (t.front ++ step.Session (step_from t.one) v ∷ steps) ≡ length t.front + (1 + length steps) =
          omega (arith, length-append t.front (step.Session (step_from t.one) v ∷ steps)) in
          let few : length walk ≤ length (t.front ++ step.Session (step_from t.one) v ∷ steps) =
          least (t.front ++ step.Session (step_from t.one) v ∷ steps) (
            omega (arith, size),
            leads_append j.history b (step_from t.one) c t.front (step.Session (step_from t.one) v ∷ steps) front_leads
                (refl, pair, leads),
          ) in
          omega (arith, few, size)

      next_is : (middle : List Step) → length middle ≡ 0 → Leads j.history (step_to t.one) (step_from t.other) middle → step_to t.one ≡ step_from t.other
      next_is [] none leads = leads
      next_is (s ∷ middle) none leads = absurd (omega arith)

      forward : IsSessionPair j.history (step_from t.one) (step_from t.other) → ⊥
      forward pair =
          let few : length walk ≤ length t.front + (1 + length (t.other ∷ t.rest)) = straight (step_from t.other) (t.other ∷ t.rest) pair other_leads in
          let next : step_to t.one ≡ step_from t.other = next_is t.middle (omega (arith, few, long)) middle_leads in
          let mark : session_pair j.history (step_from t.one) (step_to t.one) ≡ true =
          subst (λ (z : ℕ). IsSessionPair j.history (step_from t.one) z) (sym next) pair in
          let on : IsSessionPair j.history (step_from t.other) (step_to t.other) = sym alike.1 ∙ mark in
          let past : IsSessionPair j.history (step_from t.one) (step_to t.other) =
          pair_on j.history (step_from t.one) (step_from t.other) (step_to t.other) one_some pair on in
          absurd (omega (arith, straight (step_to t.other) t.rest past other_leads.2, long))

      back : IsSessionPair j.history (step_from t.other) (step_from t.one) → ⊥
      back pair =
          let around : Leads j.history (step_from t.one) (step_from t.one) ((t.one ∷ t.middle) ++ step.Session (step_from t.other) (step_from t.one) ∷ []) =
          leads_append j.history (step_from t.one) (step_from t.other) (step_from t.one) (t.one ∷ t.middle)
          (step.Session (step_from t.other) (step_from t.one) ∷ []) (refl, one_leads.1, middle_leads) (refl, pair, refl) in
          let (links, lead, costs, size) =
          links_of j (step_from t.one) (step_from t.one) ((t.one ∷ t.middle) ++ step.Session (step_from t.other) (step_from t.one) ∷ []) around in
          let steps : length ((t.one ∷ t.middle) ++ step.Session (step_from t.other) (step_from t.one) ∷ []) ≡ length t.middle + 2 =
          omega (arith, length-append (t.one ∷ t.middle) (step.Session (step_from t.other) (step_from t.one) ∷ [])) in
          absurd (omega (arith, low (step_from t.one) links (omega (arith, size, steps), lead), costs, steps, long))

      never : ⊥
      never =
          go (either_way j.history MAX_SESSIONS placed (step_from t.one) (step_from t.other) one_some (step_below j.history t.one one_leads.1).0 other_some
          (step_below j.history t.other other_leads.1).0 differ alike.0)
        where
          go : IsSessionPair j.history (step_from t.one) (step_from t.other) ⊎ IsSessionPair j.history (step_from t.other) (step_from t.one) → ⊥
          go (inl pair) = forward pair
          go (inr pair) = back pair

    -- the walk has at most two steps for each session
    pub walk_short : length walk ≤ 2 * MAX_SESSIONS
    walk_short = from (cases_eq b 0)
      where
        by : 0 < b → (length walk ≤ 2 * MAX_SESSIONS) ⊎ HasTwice step_number always walk → length walk ≤ 2 * MAX_SESSIONS
        by some (inl few) = few
        by some (inr t) = absurd (never some t)

        last_some : (a : ℕ) (steps : List Step) → 0 < length steps → Leads j.history a c steps → 0 < c
        last_some a [] long leads = absurd (omega arith)
        last_some a (s ∷ steps) long leads = leads_some (step_to s) c steps (step_some s leads.1) leads.2

        from : (b ≡ 0) ⊎ (b ≢ 0) → length walk ≤ 2 * MAX_SESSIONS
        from (inl none) =
            let some : 0 < c = last_some b walk is.0 is.1 in
            let ends = walk_below j.history b c walk is in
            let pair : IsSessionPair j.history b c = initial_pair j.history b c none ends.0 some ends.1 in
            omega (arith, least (step.Session b c ∷ []) (omega arith, (refl, pair, refl)))
        from (inr other) =
            let some : 0 < b = omega arith in
            by some (few_or_twice step_number (2 * MAX_SESSIONS) walk (numbers_below b c walk some is.1))
