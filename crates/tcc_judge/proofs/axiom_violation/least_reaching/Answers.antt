use Rattle.tcc_judge.proofs.BehindLemmas.{within_nobodys}
use Rattle.tcc_graph.specs.Tables.{row_of}
use Rattle.tcc_judge.proofs.axiom_violation.least_reaching.Goals as goal

pub returns-then-is_nobodys : goal.returns-then-is_nobodys
returns-then-is_nobodys c =
    within_nobodys (row_of c.args.block.now.next c.args.key_index) (row_of c.args.block.now.clocks c.args.reader) (c.is_nobodys.ensures c.if-is_nobodys.true)
