-- What the search for the links from each block of sessions needs, and its shares.
use Rattle.std.specs.Prelude.{ℕ, ◌<◌, ◌+◌, ◌*◌, ◌≡◌, List, length, min, slice_index_or}
use Rattle.tcc_reads.specs.History.{History, IsBySession, count}
use Rattle.tcc_graph.specs.Orders.{IsNumbering}
use Rattle.tcc_clocks.specs.Clocks.{AreOwners, LeadsOnward}
use Rattle.tcc_clocks.specs.Needed.{AreNeeded}
use Rattle.tcc_clocks.specs.Parents.{AreSteps}
use Rattle.tcc_clocks.specs.declared.latest.TheConstants.{WIDE}
use Rattle.tcc_order.specs.private.CausalLinks.{AreLinksFrom}
use Rattle.tcc_order.specs.declared.sweep.Sweep.{Sweep}
use Rattle.tcc_order.specs.declared.shares.Shares.{Shares}

-- a row for each transaction
abbrev pub Links : Type 0
Links = List (List ℕ)

-- each part of it is what its name says
pub record IsSweep (s : Sweep) : Type 0 where
  pub numbered : IsBySession s.graph.now.entries
  pub owners : AreOwners s.graph.now s.owners.items
  pub numbering : IsNumbering (count s.graph.now) s.order.now
  pub onward : LeadsOnward s.graph.now s.order.now
  pub steps : AreSteps s.graph.now s.order.now s.steps.spans.items s.steps.numbers.items (length s.order.now)
  pub needed : AreNeeded s.graph.now s.needed.items

-- the block at which a share begins
abbrev pub start_of : Shares → ℕ → ℕ
start_of s share = min (s.size * share) s.blocks

-- each share has the links from its sessions
pub record HaveLinks (h : History) (s : Shares) (parts : List Links) : Type 0 where
  pub long : length parts ≡ s.count
  pub each : (share : ℕ) (d : Links) → share < s.count → AreLinksFrom h (start_of s share * WIDE) (start_of s (share + 1) * WIDE) (slice_index_or parts share d)
