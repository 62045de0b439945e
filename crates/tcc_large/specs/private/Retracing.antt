-- What holds transactions back, and going back along it.
use Rattle.std.specs.Prelude.{ℕ, ◌<◌, ◌+◌, ◌-◌, ◌≡◌, ◌⊎◌, List, length, slice_index}
use Rattle.tcc_reads.specs.History.{count}
use Rattle.tcc_graph.specs.Levels.{Judged, judged}
use Rattle.tcc_graph.specs.Relations.{IsCausalPair}
use Rattle.tcc_graph.specs.Links.{IsLink, link_from, link_to}
use Rattle.tcc_graph.specs.declared.link.Link.{Link}
use Rattle.tcc_order.specs.Placements.{IsDerivedPair, IsStuck}
use Rattle.tcc_large.specs.declared.predecessor_cycle.StuckOrder.{StuckOrder}

-- a history at its level, and that an order of it stops
abbrev pub judged_at : StuckOrder → Judged
judged_at at = judged at.graph.now at.level

abbrev pub IsStuckAt : StuckOrder → Type 0
IsStuckAt at = IsStuck (judged_at at) at.stuck.now.kept at.stuck.now.placed.items

-- b has to come before a, by a pair or by a derived link
abbrev pub IsHeldBack : Judged → ℕ → ℕ → Type 0
IsHeldBack j b a = IsCausalPair j.history b a ⊎ IsDerivedPair j b a

-- a link from b to a
abbrev pub IsLinkBetween : Judged → ℕ → ℕ → Link → Type 0
IsLinkBetween j b a l = (link_from l ≡ b) × (link_to l ≡ a) × IsLink j l

-- each of the numbers is held back by the next one, and the last is the first again
pub record GoesRound (j : Judged) (numbers : List ℕ) : Type 0 where
  pub some : 1 < length numbers
  pub below : (i : ℕ) → i < length numbers → slice_index numbers i < count j.history
  pub held : (i : ℕ) → i + 1 < length numbers → IsHeldBack j (slice_index numbers (i + 1)) (slice_index numbers i)
  pub closed : slice_index numbers (length numbers - 1) ≡ slice_index numbers 0
