-- Where an order keeps all pairs, a cycle that costs less goes through `init`, or else a derived link leads back over each of its
-- transactions.
use Rattle.std.proofs.Common.{◌≡◌, ◌≢◌, ◌<◌, ◌≤◌, ◌+◌, ◌-◌, ◌⊎◌, inl, inr, ℕ, zero, suc, List, [], ◌∷◌, ◌++◌, length, length-append, get_or, refl, sym, ap, subst, ◌∙◌, arith}
use Rattle.std.specs.List.{All, Contains}
use Rattle.std.proofs.lemmas.Bool.{cases_eq, cases_lt}
use Rattle.std.proofs.lemmas.List.{get_or_default, get_or_past}
use Rattle.std.proofs.lemmas.List.Elements.{All-cons, All-nil}
use Rattle.tcc_reads.specs.History.{History, count}
use Rattle.tcc_graph.specs.Keys.{key_at}
use Rattle.tcc_graph.specs.Levels.{Judged, judged}
use Rattle.tcc_graph.specs.Links.{IsReason, cost, link_from, link_to}
use Rattle.tcc_graph.specs.Orders.{IsNumbering}
use Rattle.tcc_graph.specs.Routes.{IsCycle, LinksLead}
use Rattle.tcc_graph.specs.declared.level.Level.{Level}
use Rattle.tcc_graph.specs.declared.link.Link.{Link}
use Rattle.tcc_graph.specs.declared.link.Link.TheVariants as link
use Rattle.tcc_graph.specs.declared.step.Step.{Step}
use Rattle.tcc_graph.proofs.Numberings.{one_index}
use Rattle.tcc_graph.proofs.Pairs.{initial_pair}
use Rattle.tcc_graph.proofs.Linking.{cost_append, cost_around, cost_cons, derived_cost, lead_append, lead_split, one_cost}
use Rattle.tcc_least.specs.LeadingBack.{HasReasonAgainstInit, NoneIntoInit, Rises}
use Rattle.tcc_least.specs.Shapes.{NoneBelow}
use Rattle.tcc_least.proofs.LeadingBack.{init_reason}
use Rattle.tcc_lanes.specs.Among.{HasCheaperAmong, HasCheaperIntoInit, IsAmong}
use Rattle.tcc_lanes.specs.Contradicted.{IsSpannedAside}
use Rattle.tcc_lanes.proofs.BackLemmas.{spanned_aside}
use Rattle.tcc_lanes.proofs.NearLemmas.{near_ends}
use Rattle.tcc_clocks.specs.Clocks.{LeadsOnward}
use Rattle.tcc_judge.specs.Spanned.{IsMember, IsSpanned, IsStaleKey}
use Rattle.tcc_judge.specs.private.Positions.{ArePositions}
use Rattle.tcc_judge.proofs.PositionLemmas.{before_at}
use Rattle.tcc_graph.proofs.WriterLemmas.{key_place}

-- ---- links with one that ends at `init`
record ComesToInit (links : List Link) : Type 0 where
  front : List Link
  last : Link
  behind : List Link
  is : links ≡ front ++ last ∷ behind
  to : link_to last ≡ 0

comes_or_never : (links : List Link) → ComesToInit links ⊎ All (λ l. link_to l ≢ 0) links
comes_or_never [] = inr (All-nil (λ l. link_to l ≢ 0))
comes_or_never (l ∷ links) = go (cases_eq (link_to l) 0) (comes_or_never links)
  where
    go : (link_to l ≡ 0) ⊎ (link_to l ≢ 0) → ComesToInit links ⊎ All (λ l. link_to l ≢ 0) links → ComesToInit (l ∷ links) ⊎ All (λ l. link_to l ≢ 0) (l ∷ links)
    go (inl same) later = inl record { front = []; last = l; behind = links; is = refl; to = same }
    go (inr other) (inl w) = inl record { front = l ∷ w.front; last = w.last; behind = w.behind; is = ap (λ rest. l ∷ rest) w.is; to = w.to }
    go (inr other) (inr all) = inr (All-cons (λ l. link_to l ≢ 0) l links other all)

-- ---- cycles that cost less
module _ (j : Judged) (none : NoneIntoInit j.history) (most : ℕ) (key_indices : List ℕ)
    (has_keys : (b : ℕ) (x : List ℕ) (c : ℕ) (walk : List Step) → IsReason j b 0 x c walk → (k : ℕ) × Contains key_indices k × (key_at j.history k ≡ x)) where
  -- a cycle that comes to `init` may as well begin there
  from_init : (s : ℕ) (links : List Link) → IsCycle j s links → ComesToInit links → (others : List Link) × IsCycle j 0 others × (cost others ≡ cost links)
  from_init s links cycle w = (
    w.behind ++ (w.front ++ w.last ∷ []),
    (omega (arith, length-append w.behind (w.front ++ w.last ∷ []), length-append w.front (w.last ∷ [])), lead_append j 0 s 0 w.behind (w.front ++ w.last ∷ []) goes comes),
    omega (arith, ap cost w.is, cost_around w.front w.last w.behind, cost_append w.behind (w.front ++ w.last ∷ []), cost_append w.front (w.last ∷ []), one_cost w.last),
  )
    where
      split : (m : ℕ) × LinksLead j s m w.front × LinksLead j m s (w.last ∷ w.behind)
      split = lead_split j s s w.front (w.last ∷ w.behind) (subst (LinksLead j s s) w.is cycle.1)

      goes : LinksLead j 0 s w.behind
      goes = subst (λ (z : ℕ). LinksLead j z s w.behind) w.to split.2.2

      comes : LinksLead j s 0 (w.front ++ w.last ∷ [])
      comes = lead_append j s split.0 0 w.front (w.last ∷ []) split.1 (split.2.0, split.2.1, w.to)

  some_into : (n : ℕ) (others : List Link) → IsCycle j 0 others → cost others ≤ n + 2 → n + 2 < most → HasCheaperIntoInit j key_indices most
  some_into n others circle low high = by (init_reason j none n others circle low)
    where
      by : HasReasonAgainstInit j n → HasCheaperIntoInit j key_indices most
      by (b, x, c, walk, reason, short) =
          let key = has_keys b x c walk reason in
          (b, (key.0, c, walk, key.1, subst (λ (y : List ℕ). IsReason j b 0 y c walk) (sym key.2) reason, omega (arith, short, high)))

  never_two : (others : List Link) → IsCycle j 0 others → cost others ≤ 2 → ⊥
  never_two others circle low = by (init_reason j none 0 others circle low)
    where
      by : HasReasonAgainstInit j 0 → ⊥
      by (b, x, c, walk, reason, short) = omega (arith, short, reason.1.0.0)

  -- a cycle that costs less never comes to `init`, where none does by one of the keys
  pub never_comes : (s : ℕ) (links : List Link) → IsCycle j s links → cost links < most → (HasCheaperIntoInit j key_indices most → ⊥) → All (λ l. link_to l ≢ 0) links
  never_comes s links cycle few into = go (comes_or_never links)
    where
      go : ComesToInit links ⊎ All (λ l. link_to l ≢ 0) links → All (λ l. link_to l ≢ 0) links
      go (inr never) = never
      go (inl w) = by (from_init s links cycle w)
        where
          by : (others : List Link) × IsCycle j 0 others × (cost others ≡ cost links) → All (λ l. link_to l ≢ 0) links
          by (others, circle, same) = at (cases_lt 2 (cost others))
            where
              at : (2 < cost others) ⊎ (cost others ≤ 2) → All (λ l. link_to l ≢ 0) links
              at (inl more) = absurd (into (some_into (cost others - 2) others circle (omega arith) (omega (arith, few, same, more))))
              at (inr low) = absurd (never_two others circle low)

-- and each of these is a cycle that costs less
pub below_among : (j : Judged) (members : List ℕ) (most : ℕ) → NoneBelow j most → HasCheaperAmong j members most → ⊥
below_among j members most none (v, links, cycle, among, few) = omega (arith, none v links cycle, few)

pub below_into : (j : Judged) (key_indices : List ℕ) (most : ℕ) → 0 < count j.history → NoneBelow j most → HasCheaperIntoInit j key_indices most → ⊥
below_into j key_indices most there none (b, (k, c, walk, listed, reason, few)) =
    let x = key_at j.history k in
    let derived : Link = link.Derived b 0 x c walk in
    let cycle : IsCycle j 0 (link.Session 0 b ∷ derived ∷ [])
    = (omega arith, (refl, initial_pair j.history 0 b refl there (positive b reason.0.0) reason.0.2.0, (refl, reason, refl))) in
    omega (
      arith,
      none 0 (link.Session 0 b ∷ derived ∷ []) cycle,
      few,
      cost_cons (link.Session 0 b) (derived ∷ []),
      one_cost derived,
      derived_cost b 0 x c walk,
    )
  where
    positive : (b : ℕ) → (b ≡ 0 → ⊥) → 0 < b
    positive zero other = absurd (other refl)
    positive (suc b) other = omega arith

-- ---- by the positions of an order that keeps all pairs
module _ (h : History) (level : Level) (order positions : List ℕ) (numbering : IsNumbering (count h) order) (some : 0 < length order) (first : get_or order 0 0 ≡ 0)
    (are : ArePositions (count h) order positions) (onward : LeadsOnward h order) where
  abbrev pub rank : ℕ → ℕ
  rank v = get_or positions v 0

  pub rises : Rises h rank
  rises a b pair = before_at (count h) order positions numbering are a b (onward a b pair)

  init_first : 0 < count h → rank 0 ≡ 0
  init_first there = one_index numbering (rank 0) 0 (are.within 0 there) some (are.here 0 there ∙ sym first)

  pub never_into : 0 < count h → NoneIntoInit h
  never_into there a pair = omega (arith, rises a 0 pair, init_first there)

  pub is_spanned : 0 < count h → (v : ℕ) → IsSpannedAside (judged h level) rank v → IsSpanned h order v
  is_spanned there v (b, a, x, c, walk, reason, other, low, high) = (
    b,
    a,
    x,
    c,
    walk,
    (reason.0, (reason.1.0, tt)),
    positive,
    below,
    (λ before. omega (arith, before_at (count h) order positions numbering are v a before, low)),
    (λ before. omega (arith, before_at (count h) order positions numbering are b v before, high)),
  )
    where
      positive : 0 < a
      positive = go (cases_eq a 0)
        where
          go : (a ≡ 0) ⊎ (a ≢ 0) → 0 < a
          go (inl none) = absurd (other none)
          go (inr more) = omega arith

      behind : 0 < rank a
      behind = go (cases_eq (rank a) 0)
        where
          go : (rank a ≡ 0) ⊎ (rank a ≢ 0) → 0 < rank a
          go (inl none) = absurd (other (sym (are.here a reason.0.1.0) ∙ (ap (λ z. get_or order z 0) none ∙ first)))
          go (inr more) = omega arith

      below : v < count h
      below = go (cases_lt v (count h))
        where
          go : (v < count h) ⊎ (count h ≤ v) → v < count h
          go (inl l) = l
          go (inr past) = absurd (omega (arith, behind, low, get_or_past positions v 0 (omega (arith, are.long, past))))

  pub is_stale : (b : ℕ) (x : List ℕ) (c : ℕ) (walk : List Step) → IsReason (judged h level) b 0 x c walk → (k : ℕ) × IsStaleKey h k × (key_at h k ≡ x)
  is_stale b x c walk reason =
      let key = key_place h 0 c x reason.0.1 in
      let mine : IsReason (judged h level) b 0 (key_at h key.0) c walk = subst (λ (y : List ℕ). IsReason (judged h level) b 0 y c walk) (sym key.2) reason in
      (key.0, (key.1, (b, c, walk, (mine.0, (mine.1.0, tt)))), key.2)

  -- with lists of the transactions that are spanned and near, and of the keys
  module _ (most : ℕ) (members key_indices : List ℕ) (all : (v : ℕ) → IsMember (judged h level) order positions most v → Contains members v)
      (of_keys : (k : ℕ) → IsStaleKey h k → Contains key_indices k) (there : 0 < count h) where
    pub named : (b : ℕ) (x : List ℕ) (c : ℕ) (walk : List Step) → IsReason (judged h level) b 0 x c walk → (k : ℕ) × Contains key_indices k × (key_at h k ≡ x)
    named b x c walk reason = let key = is_stale b x c walk reason in (key.0, of_keys key.0 key.1, key.2)

    -- where no cycle comes to `init`, each transaction is among them
    pub all_among : (n : ℕ) → n ≤ most → (s : ℕ) (links : List Link) → IsCycle (judged h level) s links → cost links < n
        → (HasCheaperIntoInit (judged h level) key_indices n → ⊥) → All (IsAmong members) links
    all_among n below s links cycle few into i d l = among (get_or links i d) (i, l, get_or_default links i (get_or links i d) d l)
      where
        never : All (λ l. link_to l ≢ 0) links
        never = never_comes (judged h level) (never_into there) n key_indices named s links cycle few into

        never_to : (d : Link) → Contains links d → link_to d ≢ 0
        never_to d listed = subst (λ (m : Link). link_to m ≢ 0) listed.2 (never listed.0 d listed.1)

        among : (l : Link) → Contains links l → IsAmong members l
        among l listed =
            let both = spanned_aside (judged h level) rank rises s links cycle never_to l listed in
            let near = near_ends (judged h level) rank rises most s links cycle never_to (omega (arith, few, below)) l listed in
            (all (link_from l) (is_spanned there (link_from l) both.0, near.0), all (link_to l) (is_spanned there (link_to l) both.1, near.1))
