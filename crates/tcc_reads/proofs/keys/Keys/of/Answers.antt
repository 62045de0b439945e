use Rattle.tcc_reads.proofs.keys.Keys.of.Goals as goal

pub returns : goal.returns
returns c x = c.in_ok-names.ensures.same x
