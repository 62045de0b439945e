-- What holds each transaction back: what it follows and reads from, and the links that are kept.
use Rattle.std.specs.Prelude.{ℕ, ◌<◌, ◌≡◌, ◌==◌, ◌&&◌, nat_lt, Bool, true, false, List, ◌++◌, length, slice_index, Contains}
use Rattle.std.specs.Prelude.{◌↔◌, if◌then◌else◌, ◌+◌}
use Rattle.std.specs.List.{list_any}
use Rattle.tcc_reads.specs.History.{History, count}
use Rattle.tcc_graph.specs.Tables.{row_of}
use Rattle.tcc_bits.specs.Bits.{is_marked}
use Rattle.tcc_clocks.specs.Parents.{parents}

-- what has to be before x: its parents, and the sources of links that are kept
abbrev pub befores : History → List (List ℕ) → ℕ → List ℕ
befores h kept x = parents h x ++ row_of kept x

-- b holds x back
unfoldable pub holds : History → List (List ℕ) → ℕ → ℕ → Bool
holds h kept b x = (nat_lt b (count h) && nat_lt x (count h)) && list_any (λ y. b == y) (befores h kept x)

-- kept links begin at transactions
abbrev pub AreInside : History → List (List ℕ) → Type 0
AreInside h kept = (x b : ℕ) → Contains (row_of kept x) b → b < count h

-- x was not placed, and all that has to be before it was
pub record IsFreeBy (precedes : ℕ → ℕ → Bool) (n : ℕ) (placed : List ℕ) (x : ℕ) : Type 0 where
  pub below : x < n
  pub new : is_marked placed x ≡ false
  pub free : (b : ℕ) → precedes b x ≡ true → is_marked placed b ≡ true

-- the number after x, if x is its parent, or else x
abbrev pub onward : List ℕ → ℕ → ℕ
onward parents x = if (nat_lt 0 x && nat_lt (x + 1) (length parents)) && (slice_index parents (x + 1) == x) then x + 1 else x

-- the numbers below `end` whose parent is 0
abbrev pub AreRoots : List ℕ → ℕ → List ℕ → Type 0
AreRoots parents end ready = (x : ℕ) → Contains ready x ↔ ((x < end) × (slice_index parents x ≡ 0))
