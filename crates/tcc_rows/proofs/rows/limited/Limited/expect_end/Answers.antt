use Rattle.std.proofs.Common.{arith, ◌<◌, ◌≡◌, length, length-take-le, take}
use Rattle.tcc_rows.proofs.LimitFacts.{end-consumes, nothing-left, past-limit-kept}
use Rattle.tcc_rows.proofs.rows.limited.Limited.expect_end.Goals as goal

pub returns-then-branch-eq0-clause-end : goal.returns-then-branch-eq0-clause-end
returns-then-branch-eq0-clause-end g c =
    let read = c.in_ok-read.ensures.bytes in
    rw c.requires.going (end-consumes _ _ _ (rw c.if-branch-eq0.true at read.0) (read.1 c.if-branch-eq0.true (omega arith)))

pub returns-then-branch-eq0-clause-none : goal.returns-then-branch-eq0-clause-none
returns-then-branch-eq0-clause-none g c = nothing-left _

pub returns-clause-more : goal.returns-clause-more
returns-clause-more g c =
    let front : length (take c.in_ok-read.field-0 c.read.new.buf) ≡ c.in_ok-read.field-0 = length-take-le _ _ c.in_ok-read.ensures.bound.0 in
    let some : 0 < length (take c.in_ok-read.field-0 c.read.new.buf) = omega (arith, c.if-branch-eq0.false, front) in
    rw (c.requires.going, c.requires.none_left) (past-limit-kept _ _ _ some c.in_ok-read.ensures.bytes.0)
