-- A line with another number of words.
use Rattle.std.proofs.Common.{arith}
use Rattle.std.proofs.lemmas.Bool.Decides.{nat_tests}
use Rattle.tcc_cert.specs.Reading.{derived_of}
use Rattle.tcc_cert.proofs.WordFacts.{five_words-other}
use Rattle.tcc_cert.proofs.reading.forms.derived_fields.Goals as goal

pub returns-in_default : goal.returns-in_default
returns-in_default c = five_words-other (derived_of c.args.scale) (λ word. word.now) c.args.fields.now (grind (arith, nat_tests))
