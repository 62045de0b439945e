-- What is known at a place of a pass.
use Rattle.std.proofs.Common.{ℕ, ◌≡◌, List, length}
use Rattle.tcc_reads.specs.History.{History, count}
use Rattle.tcc_graph.specs.Keys.{keys}
use Rattle.tcc_judge.specs.declared.blocks.Block.{Block}
use Rattle.tcc_judge.specs.private.Blocks.{IsAt, IsReady, IsWide}

pub wide_at : (h : History) (order : List ℕ) (place : ℕ) (block : Block) → IsAt h order place block → IsWide h block
wide_at h order place block at = record {
  clocks = record { long = at.clocks.long; wide = λ k l. (at.clocks.each k l l).wide };
  next = record { long = at.next.long; wide = at.next.wide };
}

-- with other clocks and next writers the block is ready too
pub still_ready : (h : History) (order : List ℕ) (old new : Block) → IsReady h order old → new.owners ≡ old.owners → new.steps ≡ old.steps
    → length new.clocks ≡ count h → length new.next ≡ length (keys h) → IsReady h order new
still_ready h order old new ready owners steps clocks next = record {
  ordered = ready.ordered;
  few = ready.few;
  onward = ready.onward;
  owners = rw owners ready.owners;
  steps = rw steps ready.steps;
  clocks_long = clocks;
  next_long = next;
}
