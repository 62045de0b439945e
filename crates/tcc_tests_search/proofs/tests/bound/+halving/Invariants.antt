use Rattle.std.proofs.Common.{◌+◌, ◌*◌, length}
use Rattle.tcc_tests_search.proofs.tests.bound.+halving.Given as goal

abbrev pub decreases-join+arg2 : goal.decreases-join+arg2
decreases-join+arg2 g l = 2 * length l.left.now + 1

abbrev pub decreases-join+arg3 : goal.decreases-join+arg3
decreases-join+arg3 g l = 2 * length l.right.now + 1

abbrev pub decreases-offer_all : goal.decreases-offer_all
decreases-offer_all g l = 2 * length l.costs.now
