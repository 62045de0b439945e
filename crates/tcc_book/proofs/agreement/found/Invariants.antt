use Rattle.std.proofs.Common.{◌≡◌, None, take}
use Rattle.std.specs.FinMap.{entries, find}
use Rattle.std.specs.Cmp.Lexicographic.{slice_cmp}
use Rattle.std.specs.Ordering.{nat_cmp}
use Rattle.tcc_book.proofs.agreement.found.Given as goal

-- the session is not among those so far
abbrev pub invariant-loop-i : goal.invariant-loop-i
invariant-loop-i l = find (slice_cmp nat_cmp) l.session (take l.i (entries l.copy)) ≡ None
