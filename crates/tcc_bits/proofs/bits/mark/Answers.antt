use Rattle.tcc_bits.proofs.BitLemmas.{marked_set}
use Rattle.tcc_bits.proofs.bits.mark.Goals as goal

pub returns-clause-each : goal.returns-clause-each
returns-clause-each c = λ b. marked_set c.args.words.now c.args.number b c.requires
