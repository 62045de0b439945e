-- A line with another number of words.
use Rattle.std.proofs.Common.{arith}
use Rattle.std.proofs.lemmas.Bool.Decides.{nat_tests}
use Rattle.tcc_cert.specs.LargeReading.{run_of}
use Rattle.tcc_cert.proofs.WordFacts.{two_words-other}
use Rattle.tcc_cert.proofs.reading.large_forms.RunWordLine.of_words.Goals as goal

pub returns-in_default : goal.returns-in_default
returns-in_default c = two_words-other run_of (λ word. word.now) c.args.words.now (grind (arith, nat_tests))
