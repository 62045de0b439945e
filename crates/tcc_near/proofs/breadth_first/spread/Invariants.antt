use Rattle.std.proofs.Common.{◌≡◌, ◌↔◌, ℕ, true, take}
use Rattle.std.specs.Prelude.{Contains}
use Rattle.tcc_reads.specs.History.{count}
use Rattle.tcc_bits.specs.Bits.{is_marked}
use Rattle.tcc_near.specs.private.Breadth.{AreMarks, IsLedTo}
use Rattle.tcc_near.proofs.breadth_first.spread.Given as goal

abbrev pub invariant-loop-number : goal.invariant-loop-number
invariant-loop-number l =
    AreMarks (count l.pairs.history) l.words l.suffixes
    × ((b : ℕ) → (is_marked l.words b ≡ true) ↔ IsLedTo l.pairs.history l.initial.words (Contains (take l.number-index l.fresh)) b)
