use Rattle.std.proofs.Common.{◌<◌, ◌≤◌, ℕ, get_or}
use Rattle.tcc_check.proofs.order.is_clock_below.Given as goal

abbrev pub invariant-loop-session : goal.invariant-loop-session
invariant-loop-session l = (session : ℕ) → session < l.session → get_or l.one session 0 ≤ get_or l.other session 0
