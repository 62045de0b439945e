-- What derived links and links of all kinds cost at a level, and tables of it.
use Rattle.std.specs.Prelude.{ℕ, ◌<◌, ◌≤◌, ◌≡◌, ◌+◌, ◌⊎◌, ◌↔◌, ◌==◌, ◌&&◌, nat_lt, if◌then◌else◌, List, [], ◌∷◌, Option, None, Some, slice_index, Contains}
use Rattle.std.specs.List.{AllPairs}
use Rattle.tcc_reads.specs.History.{History, count}
use Rattle.tcc_graph.specs.Relations.{IsSessionPair, IsReadsPair}
use Rattle.tcc_graph.specs.Tables.{row_of}
use Rattle.tcc_graph.specs.Levels.{Judged}
use Rattle.tcc_graph.specs.Links.{IsReason, IsLink, link_from, link_to, link_cost}
use Rattle.tcc_graph.specs.declared.level.Level.{Level}
use Rattle.tcc_graph.specs.declared.step.Step.{Step}
use Rattle.tcc_graph.specs.declared.link.Link.{Link}
use Rattle.tcc_graph.specs.declared.link.Link.TheVariants as link
use Rattle.tcc_near.specs.WalkLengths.{IsSquare, least}

-- a derived link, with its reason, leads from b to a
abbrev pub IsDerived : Judged → ℕ → ℕ → Link → Type 0
IsDerived j b a l =
    (x : List ℕ) × (c : ℕ) × (walk : List Step) × (l ≡ link.Derived b a x c walk) × IsReason j b a x c walk

-- one of these links costs n, and none of them costs less
pub record IsLeastAmong (is_one : Link → Type 0) (n : ℕ) : Type 0 where
  pub attained : (l : Link) × is_one l × (link_cost l ≡ n)
  pub least : (l : Link) → is_one l → n ≤ link_cost l

-- the least cost of these links; none if there are no such links
abbrev pub IsLeastCostOf : (Link → Type 0) → Option ℕ → Type 0
IsLeastCostOf is_one None = (l : Link) → is_one l → ⊥
IsLeastCostOf is_one (Some n) = IsLeastAmong is_one n

-- the least cost of a derived link from b to a, over all its reasons; none if there is no reason
abbrev pub IsPrice : Judged → ℕ → ℕ → Option ℕ → Type 0
IsPrice j b a = IsLeastCostOf (IsDerived j b a)

-- a link leads from a to b
pub record IsLinkOf (j : Judged) (a : ℕ) (b : ℕ) (l : Link) : Type 0 where
  pub from : link_from l ≡ a
  pub to : link_to l ≡ b
  pub link : IsLink j l

-- the least cost of a link from a to b, of any kind; none if there is no link
abbrev pub IsCost : Judged → ℕ → ℕ → Option ℕ → Type 0
IsCost j a b = IsLeastCostOf (IsLinkOf j a b)

-- A level, and tables by transaction. `prices` has the costs of derived links at the level, and `ends` the end of the numbers
-- that session pairs lead to. `others` has the numbers that other links lead to, each with the least cost of a link there.
-- `limit` is the highest cost of links that are kept by cost.
pub record Tables : Type 0 where
  pub level : Level
  pub prices : List (List ℕ)
  pub ends : List ℕ
  pub others : List (List (ℕ × ℕ))
  pub limit : ℕ

abbrev pub price_at : Tables → ℕ → ℕ → Option ℕ
price_at t b a = least t.prices b a

abbrev pub end_of : Tables → ℕ → ℕ
end_of t u = slice_index t.ends u

abbrev pub others_at : Tables → ℕ → List (ℕ × ℕ)
others_at t u = row_of t.others u

-- the value beside a number in a list; none if the list lacks the number
abbrev pub cost_among : List (ℕ × ℕ) → ℕ → Option ℕ
cost_among [] v = None
cost_among (p ∷ others) v = if p.0 == v then Some p.1 else cost_among others v

-- the least cost of a link from u to v: 1 if a session pair leads there, else the value beside v among the others of u
unfoldable pub cost_at : Tables → ℕ → ℕ → Option ℕ
cost_at t u v = if nat_lt u v && nat_lt v (end_of t u) then Some 1 else cost_among (others_at t u) v

-- v is later than u in its session: a session pair leads there
abbrev pub IsLater : Tables → ℕ → ℕ → Type 0
IsLater t u v = (u + 1 ≤ v) × (v < end_of t u)

-- the numbers with a session pair from u are those after it and below `end`
pub record IsEnd (h : History) (u : ℕ) (end : ℕ) : Type 0 where
  pub order : u + 1 ≤ end
  pub few : end ≤ count h
  pub pairs : (v : ℕ) → IsSessionPair h u v ↔ ((u + 1 ≤ v) × (v < end))

-- v reads from u, or a derived link leads there
pub record IsOther (j : Judged) (t : Tables) (u : ℕ) (v : ℕ) : Type 0 where
  pub below : v < count j.history
  pub why : ((x : List ℕ) × IsReadsPair j.history u v x) ⊎ ((n : ℕ) × (price_at t u v ≡ Some n))

-- these are the others of u, ascending, each with the least cost of a link there
pub record HasOthers (j : Judged) (t : Tables) (u : ℕ) (others : List (ℕ × ℕ)) : Type 0 where
  pub ascending : AllPairs (λ p q. p.0 < q.0) others
  pub only : (v : ℕ) (c : ℕ) → Contains others (v, c) → IsOther j t u v × (cost_at t u v ≡ Some c)
  pub each : (v : ℕ) (c : ℕ) → IsOther j t u v → cost_at t u v ≡ Some c → Contains others (v, c)

-- the tables have the least costs between all transactions at the level
pub record IsPricesOf (j : Judged) (t : Tables) : Type 0 where
  pub level : t.level ≡ j.level
  pub prices : IsSquare (count j.history) t.prices
  pub priced : (b : ℕ) (a : ℕ) → b < count j.history → a < count j.history → IsPrice j b a (price_at t b a)
  pub costed : (a : ℕ) (b : ℕ) → a < count j.history → b < count j.history → IsCost j a b (cost_at t a b)
  -- a shortest walk has at most as many steps as there are transactions
  pub few : (b : ℕ) (a : ℕ) (n : ℕ) → b < count j.history → a < count j.history → price_at t b a ≡ Some n → n ≤ count j.history + 1
  pub ended : (u : ℕ) → u < count j.history → IsEnd j.history u (end_of t u)
  pub others : (u : ℕ) → u < count j.history → HasOthers j t u (others_at t u)
