-- What the reads of the next transaction bring, by the writers that may still be read.
use Rattle.std.specs.Prelude.{ℕ, ◌<◌, ◌≡◌, ◌≢◌, ◌⊎◌, List, [], ◌∷◌, Some, Contains, length}
use Rattle.tcc_reads.specs.History.{Entry, History, count}
use Rattle.tcc_graph.specs.Walks.{IsReached}
use Rattle.tcc_watch.specs.Delivered.{with_last}
use Rattle.tcc_forget.specs.Covers.{Cover, IsLastOf, IsReadable, LeadsTo, Readable}

-- the transaction that comes has observed b
abbrev pub Observes : History → Entry → ℕ → Type 0
Observes h e b = IsReached (with_last h e) b (count h)

-- right before the transaction that comes are the last of its session and each listed writer that it reads from
abbrev pub IsRightBefore : History → Entry → Cover → ℕ → Type 0
IsRightBefore h e cover p = IsLastOf h e.owner p ⊎ ((x : List ℕ) × Contains e.reads (x, p) × Contains (cover x).listed p)

-- a read from a contradicts: a isn't readable; or it's `init`, where the key has a top; or it isn't listed, and the reader has
-- observed one that is
pub data IsOutdated (h : History) (e : Entry) (readable : Readable) (a : ℕ) : Type 0 where
  Forgotten : 0 < a → (IsReadable readable a → ⊥) → IsOutdated h e readable a
  Initial : (top : ℕ) → a ≡ 0 → readable.top ≡ Some top → IsOutdated h e readable a
  Passed : (b : ℕ) → (Contains readable.listed a → ⊥) → Contains readable.listed b → Observes h e b → IsOutdated h e readable a

-- one of its reads contradicts
abbrev pub ReadsOutdated : History → Entry → Cover → Type 0
ReadsOutdated h e cover = (x : List ℕ) × (a : ℕ) × Contains e.reads (x, a) × IsOutdated h e (cover x) a

-- it makes a link from b to a: it reads a key from a and has observed b, and both are listed there
pub record IsMade (h : History) (e : Entry) (cover : Cover) (b : ℕ) (a : ℕ) : Type 0 where
  pub key : List ℕ
  pub read : Contains e.reads (key, a)
  pub to : Contains (cover key).listed a
  pub from : Contains (cover key).listed b
  pub apart : b ≢ a
  pub observed : Observes h e b

-- from u to v by routes that were there and by links that it makes, each given by its ends
abbrev pub LeadsBy : History → Entry → Cover → ℕ → ℕ → List (ℕ × ℕ) → Type 0
LeadsBy h e cover u v [] = LeadsTo h u v
LeadsBy h e cover u v (made ∷ more) = LeadsTo h u made.0 × IsMade h e cover made.0 made.1 × LeadsBy h e cover made.1 v more

-- links that it makes lead round, with routes that were there
abbrev pub ClosesCircle : History → Entry → Cover → Type 0
ClosesCircle h e cover = (s : ℕ) × (made : List (ℕ × ℕ)) × (0 < length made) × LeadsBy h e cover s s made
