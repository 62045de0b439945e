use Rattle.tcc_lanes.proofs.BackLemmas.{cheaper_none, none_cheaper}
use Rattle.tcc_lanes.proofs.laws.contradicted.Goals as goal

pub returns : goal.returns
returns c = λ j rank rises n. (cheaper_none j rank rises n, none_cheaper j rank rises n)
