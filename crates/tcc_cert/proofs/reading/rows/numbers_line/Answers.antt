-- A line of digits is that of the numbers that were read from it.
use Rattle.std.proofs.Common.{◌≡◌, arith}
use Rattle.tcc_cert.specs.Texts.{numbers_words, words_text}
use Rattle.tcc_cert.proofs.DigitLines.{at_most-of, numbers-read}
use Rattle.tcc_cert.proofs.reading.rows.numbers_line.Goals as goal

pub returns-in-Some : goal.returns-in-Some
returns-in-Some c =
    let numbers = c.in-Some.numbers.items in
    let line : c.args.line.now ≡ words_text (numbers_words numbers) = rw c.in-Some.is at c.in_ok-numbers.ensures.line in
    rw (line, c.new.ensures)
    (numbers-read c.args.count c.args.most numbers (omega (arith, c.ranges.most.fits))
    (at_most-of c.args.most numbers (rw c.in-Some.is at c.in_ok-numbers.ensures.within)) (rw c.in-Some.is at c.in_ok-numbers.ensures.long))
