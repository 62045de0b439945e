use Rattle.std.proofs.Common.{◌≡◌}
use Rattle.tcc_tests_search.proofs.tests.bound.offer_down_to.Given as goal

abbrev pub invariant-loop-more : goal.invariant-loop-more
invariant-loop-more l = (l.seat.bound ≡ l.bound) × (l.seat.known.floor ≡ 0)
