-- the numbers so far come before those of the words that are left
use Rattle.std.proofs.Common.{◌≡◌, length, drop}
use Rattle.tcc_cert.specs.Reading.{numbers_of, parted}
use Rattle.tcc_cert.proofs.WordFacts.{with_front}
use Rattle.tcc_cert.proofs.reading.rows.numbers_of.Given as goal

abbrev pub invariant-loop-word : goal.invariant-loop-word
invariant-loop-word l =
    with_front l.numbers.items (numbers_of l.most (drop (length l.yielded) (parted l.line))) ≡ numbers_of l.most (parted l.line)
