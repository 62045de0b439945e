use Rattle.std.proofs.Common.{take}
use Rattle.tcc_book.specs.Passes.{LeastTorn}
use Rattle.tcc_book.proofs.agreement.least_torn.Given as goal

-- the least name so far
abbrev pub invariant-loop-pass : goal.invariant-loop-pass
invariant-loop-pass l = LeastTorn l.copy (take l.pass-index l.passes) l.least
