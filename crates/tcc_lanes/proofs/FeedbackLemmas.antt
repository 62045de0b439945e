-- Each cycle passes a feedback vertex set, so the cheapest one is found from there.
use Rattle.std.proofs.Common.{◌≡◌, ◌≢◌, ◌<◌, ◌≤◌, ◌+◌, ◌↔◌, ◌⊎◌, inl, inr, ℕ, Bool, false, List, [], ◌∷◌, ◌++◌, length, get_or, replicate, sym, subst, ◌∙◌, arith}
use Rattle.std.specs.List.{All, AllPairs, Contains}
use Rattle.std.proofs.lemmas.Bool.{cases_lt, false≢true}
use Rattle.std.proofs.lemmas.List.{get_or-replicate, get_or_default, length-append, length-replicate}
use Rattle.std.proofs.lemmas.List.Elements.{All-append, All-cons, All-head, All-nil, All-tail}
use Rattle.tcc_graph.specs.Levels.{Judged}
use Rattle.tcc_graph.specs.Links.{cost, link_from, link_to}
use Rattle.tcc_graph.specs.Routes.{LinksLead}
use Rattle.tcc_graph.specs.declared.link.Link.{Link}
use Rattle.tcc_graph.proofs.Linking.{cost_append, cost_cons, lead_append, one_cost}
use Rattle.tcc_lanes.specs.Among.{HasCheaperAmong, IsAmong}
use Rattle.tcc_lanes.specs.declared.pricing.TheConstants.{NONE}
use Rattle.tcc_lanes.specs.private.Feedback.{IsFeedbackVertexSet, IsMarked}
use Rattle.tcc_lanes.specs.private.Pricing.{ArePriceRows, HasReturn, IsLeastReturn, price_of}
use Rattle.tcc_lanes.proofs.SettledCosts.{once}

-- ---- cycles
module _ (j : Judged) (members : List ℕ) (most : ℕ) (high : most ≤ NONE) (rows : List (List ℕ)) (are : ArePriceRows j members most (length members) rows)
    (ascending : AllPairs (λ u v. u < v) members) (marks : List Bool) (set : IsFeedbackVertexSet rows marks) where
  all_rows : length rows ≡ length members
  all_rows = omega (arith, are.long)

  -- links come to a marked member and go on from there
  record Passes (a : ℕ) (b : ℕ) (links : List Link) : Type 0 where
    at : ℕ
    inside : at < length members
    marked : IsMarked marks at
    front : List Link
    behind : List Link
    comes : LinksLead j a (get_or members at 0) front
    goes : LinksLead j (get_or members at 0) b behind
    some : 0 < length front
    front_among : All (IsAmong members) front
    behind_among : All (IsAmong members) behind
    costs : cost front + cost behind ≡ cost links

  passes : (u t : ℕ) (links : List Link) → u < length members → t < length members → LinksLead j (get_or members u 0) (get_or members t 0) links
      → All (IsAmong members) links → cost links < most
      → Passes (get_or members u 0) (get_or members t 0) links ⊎ (set.number t + length links ≤ set.number u)
  passes u t [] l m lead listed few =
      inr (subst (λ (z : ℕ). set.number z + 0 ≤ set.number u) (once members ascending u t l m lead) (omega arith))
  passes u t (one ∷ links) l m (from, is, rest) listed few =
      go (λ v within lead still. passes v t links within m lead (All-tail (IsAmong members) one links listed) still)
      (All-head (IsAmong members) one links listed).1
    where
      go : ((v : ℕ) → v < length members → LinksLead j (get_or members v 0) (get_or members t 0) links → cost links < most
          → Passes (get_or members v 0) (get_or members t 0) links ⊎ (set.number t + length links ≤ set.number v))
          → Contains members (link_to one) → Passes (get_or members u 0) (get_or members t 0) (one ∷ links) ⊎ (set.number t + length (one ∷ links) ≤ set.number u)
      go later (v, within, at) = by (cases_lt (set.number v) (set.number u))
        where
          to : get_or members v 0 ≡ link_to one
          to = get_or_default members v 0 (link_to one) within ∙ at

          onward : LinksLead j (get_or members v 0) (get_or members t 0) links
          onward = subst (λ (z : ℕ). LinksLead j z (get_or members t 0) links) (sym to) rest

          priced : price_of rows u v ≢ NONE
          priced e = omega (arith, e, (are.each u l l).all v within one from (sym to) is (omega (arith, few, cost_cons one links)), few, cost_cons one links, high)

          first : All (IsAmong members) (one ∷ [])
          first = All-cons (IsAmong members) one [] (All-head (IsAmong members) one links listed) (All-nil (IsAmong members))

          by : (set.number v < set.number u) ⊎ (set.number u ≤ set.number v)
              → Passes (get_or members u 0) (get_or members t 0) (one ∷ links) ⊎ (set.number t + length (one ∷ links) ≤ set.number u)
          by (inr back) = inl (record {
            at = v;
            inside = within;
            marked = (set.each v (omega (arith, within, all_rows))).1 (u, omega (arith, l, all_rows), priced, back);
            front = one ∷ [];
            behind = links;
            comes = (from, is, sym to);
            goes = onward;
            some = omega arith;
            front_among = first;
            behind_among = All-tail (IsAmong members) one links listed;
            costs = omega (arith, one_cost one, cost_cons one links);
          })
          by (inl down) = on (later v within onward (omega (arith, few, cost_cons one links)))
            where
              on : Passes (get_or members v 0) (get_or members t 0) links ⊎ (set.number t + length links ≤ set.number v)
                  → Passes (get_or members u 0) (get_or members t 0) (one ∷ links) ⊎ (set.number t + length (one ∷ links) ≤ set.number u)
              on (inr low) = inr (omega (arith, low, down))
              on (inl p) = inl (record {
                at = p.at;
                inside = p.inside;
                marked = p.marked;
                front = one ∷ p.front;
                behind = p.behind;
                comes = (from, is, subst (λ (z : ℕ). LinksLead j z (get_or members p.at 0) p.front) to p.comes);
                goes = p.goes;
                some = omega arith;
                front_among = All-cons (IsAmong members) one p.front (All-head (IsAmong members) one links listed) p.front_among;
                behind_among = p.behind_among;
                costs = omega (arith, p.costs, cost_cons one p.front, cost_cons one links);
              })

  -- the same cycle from there
  turned : (n v : ℕ) (links : List Link) → cost links < n → Passes v v links → (s : ℕ) × (s < length members) × IsMarked marks s × HasReturn j members n s
  turned n v links few p = (
    p.at,
    p.inside,
    p.marked,
    (
      p.behind ++ p.front,
      (omega (arith, length-append p.behind p.front, p.some), lead_append j (get_or members p.at 0) v (get_or members p.at 0) p.behind p.front p.goes p.comes),
      All-append (IsAmong members) p.behind p.front p.behind_among p.front_among,
      omega (arith, few, p.costs, cost_append p.behind p.front),
    ),
  )

  pub from_marked : (n : ℕ) → n ≤ most → HasCheaperAmong j members n → (s : ℕ) × (s < length members) × IsMarked marks s × HasReturn j members n s
  from_marked n below (v, [], cycle, listed, few) = absurd (omega (arith, cycle.0))
  from_marked n below (v, one ∷ links, cycle, listed, few) = go (All-head (IsAmong members) one links listed).0
    where
      go : Contains members (link_from one) → (s : ℕ) × (s < length members) × IsMarked marks s × HasReturn j members n s
      go (u, within, at) = by (passes u u (one ∷ links) within within lead listed (omega (arith, few, below)))
        where
          from : get_or members u 0 ≡ v
          from = get_or_default members u 0 (link_from one) within ∙ (at ∙ cycle.1.0)

          lead : LinksLead j (get_or members u 0) (get_or members u 0) (one ∷ links)
          lead = subst (λ (z : ℕ). LinksLead j z z (one ∷ links)) (sym from) cycle.1

          by : Passes (get_or members u 0) (get_or members u 0) (one ∷ links) ⊎ (set.number u + length (one ∷ links) ≤ set.number u)
              → (s : ℕ) × (s < length members) × IsMarked marks s × HasReturn j members n s
          by (inl p) = turned n (get_or members u 0) (one ∷ links) few p
          by (inr low) = absurd (omega (arith, low))

-- ---- marking
-- the marked members are those to which one of the first members has a link that doesn't lead to a lower number
pub record AreMarkedTo (rows : List (List ℕ)) (number : ℕ → ℕ) (end : ℕ) (marks : List Bool) : Type 0 where
  pub long : length marks ≡ length rows
  pub within : end ≤ length rows
  pub each : (v : ℕ) → v < length rows → IsMarked marks v ↔ ((u : ℕ) × (u < end) × (price_of rows u v ≢ NONE) × (number u ≤ number v))

module _ (rows : List (List ℕ)) (number : ℕ → ℕ) where
  pub marked_none : AreMarkedTo rows number 0 (replicate (length rows) false)
  marked_none = record {
    long = length-replicate {A = Bool} (length rows) false;
    within = omega arith;
    each = λ v l. ((λ is. absurd (false≢true (sym (get_or-replicate {A = Bool} (length rows) v false false l) ∙ is))), (λ has. absurd (omega (arith, has.1))));
  }

  pub marked_more : (n : ℕ) (old new : List Bool) → n < length rows → length new ≡ length old
      → ((v : ℕ) → v < length old → IsMarked new v ↔ (IsMarked old v ⊎ ((price_of rows n v ≢ NONE) × (number n ≤ number v))))
      → AreMarkedTo rows number n old → AreMarkedTo rows number (n + 1) new
  marked_more n old new inside same each w = record { long = same ∙ w.long; within = omega (arith, inside); each = λ v l. (there v l, back v l) }
    where
      there : (v : ℕ) → v < length rows → IsMarked new v → (u : ℕ) × (u < n + 1) × (price_of rows u v ≢ NONE) × (number u ≤ number v)
      there v l is = go ((each v (omega (arith, l, w.long))).0 is)
        where
          go : IsMarked old v ⊎ ((price_of rows n v ≢ NONE) × (number n ≤ number v)) → (u : ℕ) × (u < n + 1) × (price_of rows u v ≢ NONE) × (number u ≤ number v)
          go (inl before) = let (u, m, priced, up) = (w.each v l).0 before in (u, omega (arith, m), priced, up)
          go (inr (priced, up)) = (n, omega arith, priced, up)

      back : (v : ℕ) → v < length rows → (u : ℕ) × (u < n + 1) × (price_of rows u v ≢ NONE) × (number u ≤ number v) → IsMarked new v
      back v l (u, m, priced, up) = go (cases_lt u n)
        where
          go : (u < n) ⊎ (n ≤ u) → IsMarked new v
          go (inl early) = (each v (omega (arith, l, w.long))).1 (inl ((w.each v l).1 (u, early, priced, up)))
          go (inr late) =
              let same : u ≡ n = omega (arith, m, late) in
              (each v (omega (arith, l, w.long))).1 (inr (subst (λ (z : ℕ). (price_of rows z v ≢ NONE) × (number z ≤ number v)) same (priced, up)))

  pub marked_all : (end : ℕ) (marks : List Bool) → length rows ≤ end → AreMarkedTo rows number end marks → IsFeedbackVertexSet rows marks
  marked_all end marks all w = record {
    long = w.long;
    number = number;
    each = λ v l. (
      (λ is. let (u, m, priced, up) = (w.each v l).0 is in (u, omega (arith, m, w.within), priced, up)),
      λ has. let (u, m, priced, up) = has in (w.each v l).1 (u, omega (arith, m, all), priced, up),
    );
  }

-- ---- the least of some returns
-- price rows up to a limit are price rows up to a lower one
pub rows_below : (j : Judged) (members : List ℕ) (most n end : ℕ) (rows : List (List ℕ)) → n ≤ most → ArePriceRows j members most end rows
    → ArePriceRows j members n end rows
rows_below j members most n end rows below are = record {
  long = are.long;
  each = λ u l m.
      let row = are.each u l m in record {
        long = row.long;
        some = row.some;
        high = row.high;
        sound = row.sound;
        all = λ v inside l from to is few. row.all v inside l from to is (omega (arith, few, below));
      };
}

return_below : (j : Judged) (members : List ℕ) (most n s : ℕ) → n ≤ most → HasReturn j members n s → HasReturn j members most s
return_below j members most n s below (links, cycle, listed, few) = (links, cycle, listed, omega (arith, few, below))

-- no cycle from the first of the marked members costs less; and a cycle from some member costs this much, unless it is the limit
pub record IsLeastOf (j : Judged) (members : List ℕ) (most : ℕ) (marks : List Bool) (end : ℕ) (least : ℕ) : Type 0 where
  pub within : least ≤ most
  pub none : (s : ℕ) → s < end → IsMarked marks s → HasReturn j members least s → ⊥
  pub some : least < most → (s : ℕ) × HasReturn j members (least + 1) s

module _ (j : Judged) (members : List ℕ) (most : ℕ) (marks : List Bool) where
  pub least_none : IsLeastOf j members most marks 0 most
  least_none = record { within = omega arith; none = λ s l. absurd (omega (arith, l)); some = λ l. absurd (omega (arith, l)) }

  module _ (n least : ℕ) (w : IsLeastOf j members most marks n least) where
    pub least_same : (IsMarked marks n → ⊥) → IsLeastOf j members most marks (n + 1) least
    least_same other = record { within = w.within; none = λ s l. none s l (cases_lt s n); some = w.some }
      where
        none : (s : ℕ) → s < n + 1 → (s < n) ⊎ (n ≤ s) → IsMarked marks s → HasReturn j members least s → ⊥
        none s l (inl early) is has = w.none s early is has
        none s l (inr late) is has = other (subst (IsMarked marks) (same s l late) is)
          where
            same : (s : ℕ) → s < n + 1 → n ≤ s → s ≡ n
            same s l late = omega (arith, l, late)

    pub least_more : (lower : ℕ) → IsLeastReturn j members least n lower → IsLeastOf j members most marks (n + 1) lower
    least_more lower found = record {
      within = omega (arith, found.within, w.within);
      none = λ s l. none s l (cases_lt s n);
      some = λ l. some l (cases_lt lower least);
    }
      where
        none : (s : ℕ) → s < n + 1 → (s < n) ⊎ (n ≤ s) → IsMarked marks s → HasReturn j members lower s → ⊥
        none s l (inl early) is has = w.none s early is (return_below j members least lower s found.within has)
        none s l (inr late) is has = found.none (subst (HasReturn j members lower) (same s l late) has)
          where
            same : (s : ℕ) → s < n + 1 → n ≤ s → s ≡ n
            same s l late = omega (arith, l, late)

        some : lower < most → (lower < least) ⊎ (least ≤ lower) → (s : ℕ) × HasReturn j members (lower + 1) s
        some l (inl new) = (n, found.some new)
        some l (inr stays) =
            let same : least ≡ lower = omega (arith, stays, found.within) in
            subst (λ (z : ℕ). (s : ℕ) × HasReturn j members (z + 1) s) same (w.some (omega (arith, l, same)))

  module _ (end least : ℕ) (w : IsLeastOf j members most marks end least) where
    pub some_at : least < most → HasCheaperAmong j members (least + 1)
    some_at low = let (s, (links, cycle, listed, few)) = w.some low in (get_or members s 0, links, cycle, listed, few)

    pub none_at : (rows : List (List ℕ)) → most ≤ NONE → ArePriceRows j members most (length members) rows → AllPairs (λ u v. u < v) members
        → IsFeedbackVertexSet rows marks → length marks ≤ end → HasCheaperAmong j members least → ⊥
    none_at rows high are ascending set all has =
        let (s, inside, is, returns) = from_marked j members most high rows are ascending marks set least w.within has in
        w.none s (omega (arith, inside, all, set.long, are.long)) is returns
