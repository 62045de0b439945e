use Rattle.std.proofs.Common.{◌≡◌}
use Rattle.tcc_tests_search.proofs.tests.bound.only_a_lower_offer_changes_the_word.Given as goal

abbrev pub invariant-loop-cost : goal.invariant-loop-cost
invariant-loop-cost g l = (l.seat.bound ≡ l.bound) × (l.seat.known.floor ≡ 0)
