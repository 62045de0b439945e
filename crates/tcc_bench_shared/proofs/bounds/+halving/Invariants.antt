use Rattle.std.proofs.Common.{◌+◌, ◌*◌}
use Rattle.tcc_bench_shared.proofs.bounds.+halving.Given as goal

abbrev pub decreases-join+arg2 : goal.decreases-join+arg2
decreases-join+arg2 g l = 2 * l.half + 1

abbrev pub decreases-join+arg3 : goal.decreases-join+arg3
decreases-join+arg3 g l = 2 * l.rest + 1

abbrev pub decreases-call_in_threads : goal.decreases-call_in_threads
decreases-call_in_threads g l = 2 * l.threads
