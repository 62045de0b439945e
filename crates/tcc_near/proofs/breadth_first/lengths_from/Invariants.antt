use Rattle.std.proofs.Common.{◌≡◌, ◌≢◌, ◌≤◌, ◌<◌, ◌+◌, ℕ, true, length, slice_index}
use Rattle.tcc_reads.specs.History.{count}
use Rattle.tcc_bits.specs.Bits.{is_marked}
use Rattle.tcc_near.specs.private.Breadth.{AreMarks, IsSearched, IsMarked, IsSeen, unnumbered}
use Rattle.tcc_near.specs.declared.walk_lengths.TheConstants.{NONE}
use Rattle.tcc_near.proofs.breadth_first.lengths_from.Given as goal

abbrev pub invariant-loop-before : goal.invariant-loop-before
invariant-loop-before l = record {
  marks : AreMarks (count l.pairs.history) l.words.items l.suffixes.items;
  inside : (b : ℕ) → is_marked l.words.items b ≡ true → b < count l.pairs.history;
  same : length l.seen.items ≡ length l.words.items;
  seen : IsSeen l.steps.items l.seen.items;
  few : unnumbered l.steps.items + l.before ≤ count l.pairs.history;
  searched : IsSearched l.pairs.history l.source l.before l.steps.items;
  within : l.next ≤ length l.bound;
  closed : (b : ℕ) → b < l.next → slice_index l.bound b ≢ NONE → slice_index l.steps.items b ≢ NONE;
  marked : IsMarked l.pairs.history l.source (l.before + 1) l.words.items;
}
