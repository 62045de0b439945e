-- The shapes of cycles that cost at most three steps.
use Rattle.std.specs.Prelude.{ℕ, ◌<◌, ◌≤◌, ◌≡◌, ◌⊎◌, List}
use Rattle.tcc_reads.specs.History.{History}
use Rattle.tcc_graph.specs.Relations.{IsReadsPair, IsCausalPair}
use Rattle.tcc_graph.specs.Levels.{Judged, judged}
use Rattle.tcc_graph.specs.Links.{MayContradict, IsLink, link_from, link_to, link_cost, cost}
use Rattle.tcc_graph.specs.Routes.{IsCycle, IsLeastCycle}
use Rattle.tcc_graph.specs.declared.level.Level.{Level}
use Rattle.tcc_graph.specs.declared.link.Link.{Link}
use Rattle.tcc_least.specs.declared.short.ShortCycle.{ShortCycle}
use Rattle.tcc_least.specs.declared.short.ShortCycle.TheVariants as short

-- no cycle costs less than n
abbrev pub NoneBelow : Judged → ℕ → Type 0
NoneBelow j n = (s : ℕ) (links : List Link) → IsCycle j s links → n ≤ cost links

-- some cycle costs less than n
abbrev pub SomeBelow : Judged → ℕ → Type 0
SomeBelow j n = (s : ℕ) × (links : List Link) × IsCycle j s links × (cost links < n)

-- the links are a cycle from some start, and no cycle costs less
abbrev pub AreLeast : Judged → List Link → Type 0
AreLeast j links = (s : ℕ) × IsLeastCycle j s links

-- a link from a to b with n steps, at each level
pub record IsShortLink (h : History) (a : ℕ) (b : ℕ) (n : ℕ) (l : Link) : Type 0 where
  pub from : link_from l ≡ a
  pub to : link_to l ≡ b
  pub link : (level : Level) → IsLink (judged h level) l
  pub steps : link_cost l ≡ n

-- b reads some key from a
abbrev pub IsRead : History → ℕ → ℕ → Type 0
IsRead h a b = (x : List ℕ) × IsReadsPair h a b x

-- A round of fewer than n pairs, by one of its reads-from pairs, (a, c). Either c is a; or another pair leads from c to a; or
-- a pair leads from c to a transaction that a reads from.
abbrev pub IsRound : History → ℕ → ℕ → ℕ → Type 0
IsRound h n a c =
    IsRead h a c × (((1 < n) × (c ≡ a)) ⊎ (((2 < n) × IsCausalPair h c a) ⊎ ((3 < n) × ((d : ℕ) × IsRead h d a × IsCausalPair h c d))))

-- a derived link of two steps from b to a, since a pair leads from b to a reader of a key from a, and a pair back
abbrev pub IsReturn : History → ℕ → ℕ → Type 0
IsReturn h b a = ((x : List ℕ) × (c : ℕ) × MayContradict h b a x c × IsCausalPair h b c) × IsCausalPair h a b

-- the first place, by its first number and then by its second, at which a property holds
pub record IsFirstPlace (P : ℕ → ℕ → Type 0) (m : ℕ) (n : ℕ) : Type 0 where
  pub here : P m n
  pub first : (k : ℕ) (l : ℕ) → P k l → (m < k) ⊎ ((m ≡ k) × (n ≤ l))

-- the first round of fewer than n pairs; else, if n is more than 3, the first derived link of two steps with a pair back
abbrev pub IsFirstShort : History → ℕ → ShortCycle → Type 0
IsFirstShort h n (short.Round a c) = IsFirstPlace (IsRound h n) a c
IsFirstShort h n (short.Return b a) = ((c : ℕ) (d : ℕ) → IsRound h n c d → ⊥) × (3 < n) × IsFirstPlace (IsReturn h) b a
