-- A line with another number of words.
use Rattle.std.proofs.Common.{arith}
use Rattle.tcc_cert.specs.LargeReading.{large_order_sizes}
use Rattle.tcc_cert.proofs.WordFacts.{three_words-other}
use Rattle.tcc_cert.proofs.reading.large_forms.LargeOrderSizesWordLine.of_words.Goals as goal

pub returns-in_default : goal.returns-in_default
returns-in_default c = three_words-other large_order_sizes (λ word. word.now) c.args.words.now (omega arith)

pub returns-in_default-2 : goal.returns-in_default-2
returns-in_default-2 c = three_words-other large_order_sizes (λ word. word.now) c.args.words.now (omega arith)
