-- Which transactions all live sessions have observed, and how the writers of a key that may still be read cover the others.
use Rattle.std.specs.Prelude.{ℕ, ◌<◌, ◌≤◌, ◌≡◌, ◌⊎◌, List, ◌∷◌, Option, Some, Contains, if◌then◌else◌}
use Rattle.tcc_reads.specs.History.{Entry, History, count, owner, place}
use Rattle.tcc_graph.specs.Keys.{IsWriter, has_name}
use Rattle.tcc_graph.specs.Levels.{causally}
use Rattle.tcc_graph.specs.Routes.{IsRoute}
use Rattle.tcc_graph.specs.Walks.{IsReached}
use Rattle.tcc_graph.specs.declared.link.Link.{Link}
use Rattle.tcc_watch.specs.Delivered.{MayCome}

-- the last transaction of a session so far
pub record IsLastOf (h : History) (session : ℕ) (l : ℕ) : Type 0 where
  pub some : 0 < l
  pub below : l < count h
  pub owned : owner h l ≡ session
  pub last : (n : ℕ) → 0 < n → n < count h → owner h n ≡ session → place h n ≤ place h l

-- t is w or has observed it
abbrev pub HasObserved : History → ℕ → ℕ → Type 0
HasObserved h w t = (w ≡ t) ⊎ IsReached h w t

-- each live session has a last transaction, which is w or has observed it
abbrev pub IsKnown : History → List ℕ → ℕ → Type 0
IsKnown h live w = (session : ℕ) → Contains live session → (l : ℕ) × IsLastOf h session l × HasObserved h w l

-- u is v, or a route leads from u to v: so no commit order has v before u
abbrev pub LeadsTo : History → ℕ → ℕ → Type 0
LeadsTo h u v = (u ≡ v) ⊎ ((links : List Link) × IsRoute (causally h) u v links)

-- The writers of a key that may still be read without a contradiction. The listed ones are kept. Of the top nothing but its value
-- is: no link will end there.
pub record Readable : Type 0 where
  pub listed : List ℕ
  pub top : Option ℕ

abbrev pub IsReadable : Readable → ℕ → Type 0
IsReadable readable a = Contains readable.listed a ⊎ (readable.top ≡ Some a)

-- all live sessions know the top, from which routes lead to each that is listed. Each other writer but `init` is covered: a readable
-- one that all live sessions know comes after it
pub record IsCover (h : History) (live : List ℕ) (x : List ℕ) (readable : Readable) : Type 0 where
  pub some : (a : ℕ) → IsReadable readable a → 0 < a
  pub written : (a : ℕ) → IsReadable readable a → IsWriter h a x
  pub unlisted : (top : ℕ) → readable.top ≡ Some top → Contains readable.listed top → ⊥
  pub known : (top : ℕ) → readable.top ≡ Some top → IsKnown h live top
  pub onward : (top b : ℕ) → readable.top ≡ Some top → Contains readable.listed b → LeadsTo h top b
  pub covered : (w : ℕ) → 0 < w → IsWriter h w x → (IsReadable readable w → ⊥)
      → (g : ℕ) × IsReadable readable g × IsKnown h live g × LeadsTo h w g

-- for each key the writers that may still be read
abbrev pub Cover : Type 0
Cover = List ℕ → Readable

abbrev pub Covers : History → List ℕ → Cover → Type 0
Covers h live cover = (x : List ℕ) → IsCover h live x (cover x)

-- a transaction of a live session that may come next, and reads from writers
pub record ComesOn (h : History) (live : List ℕ) (e : Entry) : Type 0 where
  pub may : MayCome h e
  pub stays : Contains live e.owner
  pub sources : (x : List ℕ) (a : ℕ) → Contains e.reads (x, a) → IsWriter h a x

-- the transaction that comes is listed at the keys that it writes
abbrev pub with_listed : History → Entry → Cover → Cover
with_listed h e cover x =
    if has_name e.writes x then record { listed = count h ∷ (cover x).listed; top = (cover x).top } else cover x
