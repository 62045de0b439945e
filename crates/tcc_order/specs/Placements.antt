-- The first commit order, or what is left if it stops.
use Rattle.std.specs.Prelude.{ℕ, ◌<◌, ◌≡◌, ◌⊎◌, false, List, length, Contains}
use Rattle.tcc_reads.specs.History.{History, count}
use Rattle.tcc_graph.specs.Levels.{Judged}
use Rattle.tcc_graph.specs.Links.{IsReason}
use Rattle.tcc_graph.specs.Orders.{IsFirstOrder, IsNumbering}
use Rattle.tcc_graph.specs.Tables.{row_of}
use Rattle.tcc_graph.specs.declared.step.Step.{Step}
use Rattle.tcc_bits.specs.Bits.{is_marked}
use Rattle.tcc_clocks.specs.Parents.{parents}
use Rattle.tcc_clocks.specs.Clocks.{LeadsOnward}
use Rattle.tcc_order.specs.declared.placement.Placement.{Placement}
use Rattle.tcc_order.specs.declared.placement.Placement.TheVariants as placement
use Rattle.tcc_order.specs.declared.placement.PairPlacement.{PairPlacement}
use Rattle.tcc_order.specs.declared.placement.PairPlacement.TheVariants as pairs

-- b has to be before a by a derived link
abbrev pub IsDerivedPair : Judged → ℕ → ℕ → Type 0
IsDerivedPair j b a = (x : List ℕ) × (c : ℕ) × (walk : List Step) × IsReason j b a x c walk

-- x was not placed
abbrev pub IsLeft : Judged → List ℕ → ℕ → Type 0
IsLeft j placed x = (x < count j.history) × (is_marked placed x ≡ false)

-- b is right before x in its session, or x reads from it, or a link from b to x is kept
abbrev pub HoldsBack : Judged → List (List ℕ) → ℕ → ℕ → Type 0
HoldsBack j kept b x = Contains (parents j.history x) b ⊎ Contains (row_of kept x) b

-- kept are derived links only; some transactions are left, and each of them is held back by one that is left
pub record IsStuck (j : Judged) (kept : List (List ℕ)) (placed : List ℕ) : Type 0 where
  pub long : length kept ≡ count j.history
  pub derived : (a b : ℕ) → Contains (row_of kept a) b → IsDerivedPair j b a
  pub some : (x : ℕ) × IsLeft j placed x
  pub held : (x : ℕ) → IsLeft j placed x → (b : ℕ) × IsLeft j placed b × HoldsBack j kept b x

abbrev pub IsPlacement : Judged → Placement → Type 0
IsPlacement j (placement.Order order) = IsFirstOrder j order.items
IsPlacement j (placement.Stuck stuck) = IsStuck j stuck.kept stuck.placed.items

-- causal pairs alone leave some transactions over, and right before each of them there is one that is left over
pub record ArePairsStuck (h : History) (placed : List ℕ) : Type 0 where
  pub some : (x : ℕ) × (x < count h) × (is_marked placed x ≡ false)
  pub held : (x : ℕ) → x < count h → is_marked placed x ≡ false
      → (b : ℕ) × (b < count h) × (is_marked placed b ≡ false) × Contains (parents h x) b

abbrev pub IsPairPlacement : History → PairPlacement → Type 0
IsPairPlacement h (pairs.Order order) = IsNumbering (count h) order.items × LeadsOnward h order.items
IsPairPlacement h (pairs.Stuck placed) = ArePairsStuck h placed.items
