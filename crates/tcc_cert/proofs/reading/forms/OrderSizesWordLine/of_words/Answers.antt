-- A line with another number of words.
use Rattle.std.proofs.Common.{arith}
use Rattle.tcc_cert.specs.Reading.{order_sizes}
use Rattle.tcc_cert.proofs.WordFacts.{two_words-other}
use Rattle.tcc_cert.proofs.reading.forms.OrderSizesWordLine.of_words.Goals as goal

pub returns-in_default : goal.returns-in_default
returns-in_default c = two_words-other (order_sizes c.args.scale) (λ word. word.now) c.args.words.now (omega arith)

pub returns-in_default-2 : goal.returns-in_default-2
returns-in_default-2 c = two_words-other (order_sizes c.args.scale) (λ word. word.now) c.args.words.now (omega arith)
