use Rattle.std.proofs.Common.{rules}
use Rattle.tcc_rows.proofs.LimitFacts.{end-consumes, limit-consumes, nothing-left}
use Rattle.tcc_rows.proofs.rows.limited.Limited.read_within.Goals as goal

pub returns-then-count-eq0-clause-bytes : goal.returns-then-count-eq0-clause-bytes
returns-then-count-eq0-clause-bytes g c =
    let read = c.in_ok-count.ensures.bytes in
    let zero = c.if-count-eq0.true in
    rw (c.requires.going, zero) (end-consumes _ _ _ (rw zero at read.0) (read.1 zero (search rules)), λ none some. nothing-left _)

pub returns-else-count-eq0-clause-bytes : goal.returns-else-count-eq0-clause-bytes
returns-else-count-eq0-clause-bytes g c =
    let read = c.in_ok-count.ensures in
    rw c.requires.going (limit-consumes _ _ _ _ _ _ read.bound.0 (search rules) (λ some. search rules) read.bytes.0 read.bytes.1)
