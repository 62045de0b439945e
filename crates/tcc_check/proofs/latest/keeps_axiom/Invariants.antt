use Rattle.std.proofs.Common.{◌<◌, ℕ}
use Rattle.tcc_check.specs.private.Latest.{AreReadsKept}
use Rattle.tcc_check.proofs.latest.keeps_axiom.Given as goal

abbrev pub invariant-loop-c : goal.invariant-loop-c
invariant-loop-c l = (c : ℕ) → c < l.c → AreReadsKept l.graph l.level l.positions l.clocks c
