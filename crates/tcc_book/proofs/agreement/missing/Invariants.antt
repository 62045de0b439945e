use Rattle.std.proofs.Common.{◌≡◌, None, find, map, not, take}
use Rattle.std.specs.FinMap.{entries}
use Rattle.tcc_book.specs.Passes.{has_pass}
use Rattle.tcc_book.proofs.agreement.missing.Given as goal

-- the sessions so far have passes
abbrev pub invariant-loop-i : goal.invariant-loop-i
invariant-loop-i l = find (λ name. not (has_pass l.passes name)) (map (λ e. e.0) (take l.i (entries l.copy))) ≡ None
