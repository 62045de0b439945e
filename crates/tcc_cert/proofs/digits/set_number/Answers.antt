-- A number of few digits is these digits.
use Rattle.std.proofs.Common.{arith}
use Rattle.std.proofs.lemmas.Fmt.{decimal_digit}
use Rattle.tcc_cert.proofs.WordFacts.{decimal-two, decimal-three}
use Rattle.tcc_cert.proofs.digits.set_number.Goals as goal

pub returns-then-number-lt10-clause-text : goal.returns-then-number-lt10-clause-text
returns-then-number-lt10-clause-text c = rw (decimal_digit c.args.number (omega (arith, c.if-number-lt10.true))) c.set.ensures.text

pub returns-then-number-lt100-clause-text : goal.returns-then-number-lt100-clause-text
returns-then-number-lt100-clause-text c =
    rw (decimal-two c.args.number (omega (arith, c.if-number-lt10.false)) (omega (arith, c.if-number-lt100.true))) c.set-then-number-lt100.ensures.text

pub returns-then-number-lt1000-clause-text : goal.returns-then-number-lt1000-clause-text
returns-then-number-lt1000-clause-text c =
    rw (decimal-three c.args.number (omega (arith, c.if-number-lt100.false)) (omega (arith, c.if-number-lt1000.true)))
    c.set-then-number-lt1000.ensures.text
