-- Links split into classes with rows of marks and a rest, and tables of them.
use Rattle.std.specs.Prelude.{ℕ, ◌+◌, ◌<◌, ◌≤◌, ◌≡◌, ◌↔◌, true, List, length, map, slice_index, slice_index_or, All, Contains}
use Rattle.std.specs.List.{AllPairs}
use Rattle.tcc_graph.specs.Tables.{row_of}
use Rattle.tcc_bits.specs.Bits.{is_marked, words_for}
use Rattle.tcc_derive.specs.Prices.{Tables}
use Rattle.tcc_derive.specs.private.CostBuckets.{costs_below}
use Rattle.tcc_derive.specs.ByClass.{HasLinkAmong, IsByClass}
use Rattle.tcc_derive.specs.declared.by_class.Class.{Class}
use Rattle.tcc_derive.specs.declared.by_class.ByClass.{ByClass}

-- in a row with room for n, exactly what these links lead to is marked
pub record IsMarksOf (n : ℕ) (links : List (ℕ × ℕ)) (words : List ℕ) : Type 0 where
  pub wide : length words ≡ words_for n
  pub each : (v : ℕ) → (is_marked words v ≡ true) ↔ Contains (map (λ p. p.0) links) v

-- the others outside the interval that cost less than k, split
pub record ArePartedBelow (n : ℕ) (first : ℕ) (end : ℕ) (others : List (ℕ × ℕ)) (k : ℕ) (classes : List Class) (rest : List (ℕ × ℕ)) : Type 0 where
  pub each : (v : ℕ) (c : ℕ) → HasLinkAmong classes rest v c ↔ Contains (costs_below first end others k) (v, c)
  pub ascending : AllPairs (λ p q. p.1 ≤ q.1) rest
  pub wide : All (λ class. length class.marks ≡ words_for n) classes

-- for each transaction its others outside the later ones of its session, up to the limit, split
pub record HasClassRows (ends : List ℕ) (others : List (List (ℕ × ℕ))) (limit : ℕ) (rows : List ByClass) : Type 0 where
  pub long : length rows ≡ length others
  pub each : (u : ℕ) (d : ByClass) → u < length others → ArePartedBelow (length others) (u + 1) (slice_index ends u) (row_of others u) (limit + 1)
      (slice_index_or rows u d).classes.items (slice_index_or rows u d).rest

-- links by class for each transaction
pub record HaveByClass (t : Tables) (rows : List ByClass) : Type 0 where
  pub long : length rows ≡ length t.prices
  pub each : (u : ℕ) (d : ByClass) → u < length t.prices → IsByClass t u (slice_index_or rows u d)
