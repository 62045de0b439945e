-- A line with another number of words.
use Rattle.std.proofs.Common.{arith}
use Rattle.std.proofs.lemmas.Bool.Decides.{nat_tests}
use Rattle.tcc_cert.specs.Reading.{reads_of}
use Rattle.tcc_cert.proofs.WordFacts.{three_words-other}
use Rattle.tcc_cert.proofs.reading.forms.reads_fields.Goals as goal

pub returns-in_default : goal.returns-in_default
returns-in_default c = three_words-other (reads_of c.args.scale) (λ word. word.now) c.args.fields.now (grind (arith, nat_tests))
