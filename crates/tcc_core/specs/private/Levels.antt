-- Rows of what is met at some costs, and ways by links of classes.
use Rattle.std.specs.Prelude.{ℕ, true, ◌≡◌, ◌<◌, ◌≤◌, ◌+◌, ◌⊎◌, List, length, All, Contains}
use Rattle.tcc_bits.specs.Bits.{is_marked, words_for}
use Rattle.tcc_derive.specs.Limits.{AreWithin}
use Rattle.tcc_derive.specs.Prices.{Tables}
use Rattle.tcc_derive.specs.declared.by_class.Class.{Class}
use Rattle.tcc_core.specs.declared.levels.CostMarks.{CostMarks}
use Rattle.tcc_core.specs.declared.levels.TheConstants.{LEVELS}
use Rattle.tcc_core.specs.private.Marked.{IsMet}

-- a level with room for n marks
abbrev pub HasRoom : ℕ → CostMarks → Type 0
HasRoom n level = length level.marks.items ≡ words_for n

-- a level marks what is met at its cost, if that isn't 0
pub record IsLevel (costs : List ℕ) (level : CostMarks) : Type 0 where
  pub room : HasRoom (length costs) level
  pub met : 0 < level.cost → IsMet level.cost level.marks.items costs

-- as many levels as there may be costs at one time
pub record AreLevels (costs : List ℕ) (levels : List CostMarks) : Type 0 where
  pub long : length levels ≡ LEVELS
  pub each : All (IsLevel costs) levels

-- a row with room for n marks, which marks nothing else
pub record IsClass (n : ℕ) (class : Class) : Type 0 where
  pub wide : length class.marks ≡ words_for n
  pub within : (v : ℕ) → is_marked class.marks v ≡ true → v < n

abbrev pub AreClasses : ℕ → List Class → Type 0
AreClasses n classes = (class : Class) → Contains classes class → IsClass n class

-- From a transaction at cost d a link of one of the classes leads on to v, a number from s upward. The link costs at most `left`, and the
-- whole way n.
abbrev pub IsClassWay : List Class → ℕ → ℕ → ℕ → ℕ → ℕ → Type 0
IsClassWay classes s d left v n =
    (s ≤ v) × (class : Class) × Contains classes class × (is_marked class.marks v ≡ true) × (class.cost ≤ left) × (d + class.cost ≡ n)

-- each link that costs at most `left`, other than session links, is within the limit up to which links are kept by class
abbrev pub AreClassed : Tables → ℕ → Type 0
AreClassed t left = (left ≤ t.limit) ⊎ AreWithin t.limit t.others
