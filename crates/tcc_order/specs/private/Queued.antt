-- Numbers that may be placed next: those that are ready to be examined, and those that wait for one that holds them back.
use Rattle.std.specs.Prelude.{ℕ, ◌<◌, ◌≤◌, ◌+◌, ◌≡◌, ◌⊎◌, Bool, true, false, List, length, slice_index, Contains}
use Rattle.tcc_graph.specs.Tables.{row_of}
use Rattle.tcc_bits.specs.Bits.{is_marked}

-- x, the least of these, was taken out
pub record IsPopped (old : List ℕ) (x : ℕ) (new : List ℕ) : Type 0 where
  pub there : Contains old x
  pub least : (y : ℕ) → Contains old y → x ≤ y
  pub rest : (y : ℕ) → Contains old y → (y ≡ x) ⊎ Contains new y
  pub still : (y : ℕ) → Contains new y → Contains old y
  pub shorter : length new + 1 ≡ length old

-- x is ready, or waits for one that was not placed and holds it back
abbrev pub IsQueued : (ℕ → ℕ → Bool) → List ℕ → List ℕ → List (List ℕ) → ℕ → Type 0
IsQueued precedes placed ready waiting x =
    Contains ready x ⊎ ((b : ℕ) × (is_marked placed b ≡ false) × (precedes b x ≡ true) × Contains (row_of waiting b) x)

-- each number of the given kind is queued that was not placed, and whose parent is 0 or was placed
pub record AreQueued (precedes : ℕ → ℕ → Bool) (parents : List ℕ) (placed : List ℕ) (IsMeant : ℕ → Type 0) (ready : List ℕ) (waiting : List (List ℕ)) : Type 0 where
  pub long : length waiting ≡ length parents
  pub inside : (x : ℕ) → Contains ready x → x < length parents
  pub waits : (b x : ℕ) → Contains (row_of waiting b) x → x < length parents
  pub all : (x : ℕ) → IsMeant x → x < length parents → is_marked placed x ≡ false
      → (slice_index parents x ≡ 0) ⊎ (is_marked placed (slice_index parents x) ≡ true) → IsQueued precedes placed ready waiting x

-- all that holds these back was placed
abbrev pub AreSure : (ℕ → ℕ → Bool) → List ℕ → List ℕ → Type 0
AreSure precedes placed ready = (x : ℕ) → Contains ready x → (b : ℕ) → precedes b x ≡ true → is_marked placed b ≡ true

-- any number, and any but x
abbrev pub IsAny : ℕ → Type 0
IsAny x = Unit {0}

abbrev pub IsNot : ℕ → ℕ → Type 0
IsNot x y = y ≡ x → ⊥
