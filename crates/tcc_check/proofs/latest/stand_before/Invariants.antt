use Rattle.std.proofs.Common.{◌<◌, ℕ, get_or}
use Rattle.tcc_check.specs.private.Latest.{StandBefore}
use Rattle.tcc_check.proofs.latest.stand_before.Given as goal

abbrev pub invariant-loop-session : goal.invariant-loop-session
invariant-loop-session l = (session : ℕ) → session < l.session → StandBefore l.graph l.positions l.writers session (get_or l.clock session 0) l.source
