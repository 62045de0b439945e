-- A cut of a resolved snapshot by what links of its history need.
use Rattle.std.specs.Prelude.{ℕ, ◌≡◌, ◌<◌, List, [], Contains, flat_map, length, map, slice_index}
use Rattle.std.specs.List.Sorted.{IsPermutation}
use Rattle.tcc_txn.specs.Snapshots.{Sessions}
use Rattle.tcc_reads.specs.Faults.{read_faults}
use Rattle.tcc_reads.specs.History.{History, count}
use Rattle.tcc_reads.specs.Sources.{history}
use Rattle.tcc_graph.specs.Levels.{judged}
use Rattle.tcc_graph.specs.Renumbered.{link_by}
use Rattle.tcc_graph.specs.Routes.{AreCycle}
use Rattle.tcc_graph.specs.Walks.{IsStep}
use Rattle.tcc_graph.specs.declared.level.Level.{Level}
use Rattle.tcc_graph.specs.declared.link.Link.{Link}
use Rattle.tcc_graph.specs.declared.step.Step.{Step}
use Rattle.tcc_slices.specs.Needs.{HasStep}
use Rattle.tcc_slices.specs.private.Carrying.{IsRising, Keeps, place}
use Rattle.tcc_slices.specs.private.Cutting.{IsCut}
use Rattle.tcc_slices.specs.private.Needing.{AreNeeds, needs_of_link}
use Rattle.tcc_slices.specs.declared.needs.Need.{Need}

-- a snapshot is the cut of a resolved one, whose history has the steps of the links, by what these links need
pub record IsFit (s slice : Sessions) (links : List Link) (needs : List (ℕ × Need)) (numbers : List ℕ) : Type 0 where
  pub none : read_faults s ≡ []
  pub steps : (t : Step) → HasStep links t → IsStep (history s) t
  pub rising : IsRising numbers
  pub first : slice_index numbers 0 ≡ 0
  pub same : IsPermutation (flat_map needs_of_link links) needs
  pub theirs : AreNeeds links needs
  pub all : (n : ℕ) → Contains (map (λ one. one.0) needs) n → Contains numbers n
  pub cut : IsCut s (history s) needs numbers (length numbers) slice

-- what is asked of a cut anew
pub record IsPassing (slice : Sessions) (whole : History) (level : Level) (numbers : List ℕ) (links : List Link) : Type 0 where
  pub resolved : read_faults slice ≡ []
  pub long : length numbers ≡ count (history slice)
  pub first : slice_index numbers 0 ≡ 0
  pub cycle : AreCycle (judged (history slice) level) (map (link_by (place numbers)) links)
  pub keeps : (a : ℕ) → a < count (history slice) → Keeps numbers (history slice) whole a
