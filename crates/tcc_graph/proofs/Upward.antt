-- Routes over numbers from one on upward. Every cycle is such a route, begun at its lowest number.
use Rattle.std.proofs.Common.{ℕ, ◌≡◌, ◌<◌, ◌≤◌, ◌⊎◌, inl, inr, List, [], ◌∷◌, ◌++◌, All, refl, sym, subst, arith}
use Rattle.std.proofs.lemmas.Bool.{cases_lt}
use Rattle.std.proofs.lemmas.List.Elements.{All-nil, All-cons}
use Rattle.tcc_graph.specs.Levels.{Judged}
use Rattle.tcc_graph.specs.Links.{link_from, link_to, cost}
use Rattle.tcc_graph.specs.Routes.{LinksLead, IsCycle, IsUpward, IsUpwardRoute}
use Rattle.tcc_graph.specs.declared.link.Link.{Link}
use Rattle.tcc_graph.proofs.Linking.{cost_cons, cost_append, cost_around, lead_append, lead_split}

-- the links begin at no number below m
abbrev pub BeginFrom : ℕ → List Link → Type 0
BeginFrom m [] = Unit {0}
BeginFrom m (l ∷ links) = (m ≤ link_from l) × BeginFrom m links

begin_append : (m : ℕ) (some others : List Link) → BeginFrom m some → BeginFrom m others → BeginFrom m (some ++ others)
begin_append m [] others p q = q
begin_append m (l ∷ some) others p q = (p.0, begin_append m some others p.1 q)

begin_lower : (k m : ℕ) (links : List Link) → k ≤ m → BeginFrom m links → BeginFrom k links
begin_lower k m [] low p = tt
begin_lower k m (l ∷ links) low p = (omega (arith, p.0), begin_lower k m links low p.1)

-- links that begin at no number below m, and lead to one that is not below it, end at none below it
pub ends_upward : (j : Judged) (m a b : ℕ) (links : List Link) → LinksLead j a b links → m ≤ b → BeginFrom m links → All (IsUpward m) links
ends_upward j m a b [] lead low from = All-nil (IsUpward m)
ends_upward j m a b (l ∷ []) lead low from = All-cons (IsUpward m) l [] (from.0, omega (arith, low, lead.2)) (All-nil (IsUpward m))
ends_upward j m a b (l ∷ k ∷ links) lead low from =
    All-cons (IsUpward m) l (k ∷ links) (from.0, omega (arith, from.1.0, lead.2.0)) (ends_upward j m (link_to l) b (k ∷ links) lead.2 low from.1)

-- one of the links begins at the lowest number
record HasLowest (links : List Link) : Type 0 where
  front : List Link
  link : Link
  rest : List Link
  split : links ≡ front ++ link ∷ rest
  before : BeginFrom (link_from link) front
  after : BeginFrom (link_from link) rest

lowest_of : (l : Link) (links : List Link) → HasLowest (l ∷ links)
lowest_of l [] = record { front = []; link = l; rest = []; split = refl; before = tt; after = tt }
lowest_of l (k ∷ links) = go (lowest_of k links)
  where
    go : HasLowest (k ∷ links) → HasLowest (l ∷ k ∷ links)
    go w = pick (cases_lt (link_from l) (link_from w.link))
      where
        pick : (link_from l < link_from w.link) ⊎ (link_from w.link ≤ link_from l) → HasLowest (l ∷ k ∷ links)
        pick (inr low) = record { front = l ∷ w.front; link = w.link; rest = w.rest; split = rw w.split refl; before = (low, w.before); after = w.after }
        pick (inl low) =
            let all : BeginFrom (link_from w.link) (w.front ++ w.link ∷ w.rest) =
            begin_append (link_from w.link) w.front (w.link ∷ w.rest) w.before (omega arith, w.after) in
            record {
              front = [];
              link = l;
              rest = k ∷ links;
              split = refl;
              before = tt;
              after = begin_lower (link_from l) (link_from w.link) (k ∷ links) (omega (arith, low))
                  (subst (λ (z : List Link). BeginFrom (link_from w.link) z) (sym w.split) all);
            }

-- a cycle, begun at its lowest number: it is a route over numbers from there upward, and costs the same
pub record IsTurned (j : Judged) (s : ℕ) (links : List Link) : Type 0 where
  pub lowest : ℕ
  pub turned : List Link
  pub route : IsUpwardRoute j lowest lowest turned
  pub costs : cost turned ≡ cost links
  pub low : lowest ≤ s

first_from : (j : Judged) (s t m : ℕ) (front : List Link) (l : Link) (rest : List Link) → LinksLead j s t (front ++ l ∷ rest) → BeginFrom m front
    → m ≤ link_from l → m ≤ s
first_from j s t m [] l rest lead before here = subst (λ (z : ℕ). m ≤ z) lead.0 here
first_from j s t m (k ∷ front) l rest lead before here = subst (λ (z : ℕ). m ≤ z) lead.0 before.0

turn_at : (j : Judged) (s : ℕ) (front : List Link) (l : Link) (rest : List Link) → IsCycle j s (front ++ l ∷ rest) → BeginFrom (link_from l) front
    → BeginFrom (link_from l) rest → IsTurned j s (front ++ l ∷ rest)
turn_at j s front l rest cycle before after =
    let (m, lead, on) = lead_split j s s front (l ∷ rest) cycle.1 in
    let back : LinksLead j s (link_from l) front = subst (λ (z : ℕ). LinksLead j s z front) (sym on.0) lead in
    let around : LinksLead j (link_from l) (link_from l) (l ∷ rest ++ front) = (refl, on.1, lead_append j (link_to l) s (link_from l) rest front on.2 back) in
    let from : BeginFrom (link_from l) (l ∷ rest ++ front) = (omega arith, begin_append (link_from l) rest front after before) in
    record {
      lowest = link_from l;
      turned = l ∷ rest ++ front;
      route = ((omega arith, around), ends_upward j (link_from l) (link_from l) (link_from l) (l ∷ rest ++ front) around (omega arith) from);
      costs = omega (arith, cost_around front l rest, cost_cons l (rest ++ front), cost_append rest front);
      low = first_from j s s (link_from l) front l rest cycle.1 before (omega arith);
    }

pub turn_lowest : (j : Judged) (s : ℕ) (links : List Link) → IsCycle j s links → IsTurned j s links
turn_lowest j s [] cycle = absurd (omega (arith, cycle.0))
turn_lowest j s (l ∷ links) cycle = go (lowest_of l links)
  where
    go : HasLowest (l ∷ links) → IsTurned j s (l ∷ links)
    go w =
        subst (λ (z : List Link). IsTurned j s z) (sym w.split)
        (turn_at j s w.front w.link w.rest (subst (λ (z : List Link). IsCycle j s z) w.split cycle) w.before w.after)
