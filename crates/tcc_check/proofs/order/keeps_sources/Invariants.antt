use Rattle.std.proofs.Common.{◌<◌, ℕ, get_or}
use Rattle.tcc_check.specs.private.Positions.{IsKept}
use Rattle.tcc_check.proofs.order.keeps_sources.Given as goal

abbrev pub invariant-loop-key : goal.invariant-loop-key
invariant-loop-key l = (k : ℕ) (d : ℕ × ℕ) → k < l._key-index → IsKept l.graph l.claim.level l.positions l.claim.clocks (get_or l._key-items k d).1 l.c
