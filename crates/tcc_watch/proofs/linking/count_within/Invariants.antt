use Rattle.std.proofs.Common.{ℕ, ◌<◌, ◌≤◌, ◌-◌, length, slice_index}
use Rattle.tcc_watch.specs.private.Links.{place_at}
use Rattle.tcc_watch.proofs.linking.count_within.Given as goal

abbrev pub invariant-loop-low : goal.invariant-loop-low
invariant-loop-low l = record {
  order : l.low ≤ l.high;
  within : l.high ≤ length l.numbers;
  upto : (i : ℕ) → i < l.low → place_at l.stands (slice_index l.numbers i) ≤ l.place;
  past : (i : ℕ) → l.high ≤ i → i < length l.numbers → l.place < place_at l.stands (slice_index l.numbers i);
}

abbrev pub decreases-loop-low : goal.decreases-loop-low
decreases-loop-low l = l.high - l.low
