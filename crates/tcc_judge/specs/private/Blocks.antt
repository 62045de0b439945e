-- What is known about a block of sessions, as a pass goes back along an order.
use Rattle.std.specs.Prelude.{ℕ, ◌<◌, ◌≡◌, ◌+◌, List, length, slice_index}
use Rattle.tcc_reads.specs.History.{History, count}
use Rattle.tcc_graph.specs.Keys.{keys}
use Rattle.tcc_clocks.specs.Clocks.{AreClocks, AreOwners, LeadsOnward}
use Rattle.tcc_clocks.specs.Parents.{AreSteps}
use Rattle.tcc_clocks.specs.declared.latest.TheConstants.{WIDE}
use Rattle.tcc_judge.specs.declared.blocks.Block.{Block}
use Rattle.tcc_judge.specs.declared.least.TheConstants.{NONE}
use Rattle.tcc_judge.specs.private.Behind.{AreWide}
use Rattle.tcc_judge.specs.private.Decoding.{IsOrdered}
use Rattle.tcc_judge.specs.private.NextWriters.{AreNextWriters}

-- a is a committed transaction of this session of the block that begins at `from`
abbrev pub IsInLane : List ℕ → ℕ → ℕ → ℕ → Type 0
IsInLane owners from a lane = (lane < WIDE) × (0 < a) × (slice_index owners a ≡ from + lane)

-- a block can begin
pub record IsReady (h : History) (order : List ℕ) (block : Block) : Type 0 where
  pub ordered : IsOrdered h order
  pub few : count h < NONE
  pub onward : LeadsOnward h order
  pub owners : AreOwners h block.owners.items
  pub steps : AreSteps h order block.steps.spans.items block.steps.numbers.items (length order)
  pub clocks_long : length block.clocks ≡ count h
  pub next_long : length block.next ≡ length (keys h)

-- the clocks are those of the block, and the next writers those after the place
pub record IsAt (h : History) (order : List ℕ) (place : ℕ) (block : Block) : Type 0 where
  pub ready : IsReady h order block
  pub clocks : AreClocks h block.from block.clocks
  pub next : AreNextWriters h order block.from place block.next

-- each clock and each row of next writers has a number for each session of the block
pub record IsWide (h : History) (block : Block) : Type 0 where
  pub clocks : AreWide (count h) block.clocks
  pub next : AreWide (length (keys h)) block.next
