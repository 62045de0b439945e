use Rattle.std.proofs.Common.{arith}
use Rattle.tcc_graph.specs.Levels.{Judged, judged}
use Rattle.tcc_explain.proofs.TableLemmas.{far_few, far_table}
use Rattle.tcc_explain.proofs.tables.far_rows.Goals as goal

pub new-requires : goal.new-requires
new-requires c =
    let j : Judged = judged c.args.graph.now c.requires.0 in
    far_few j c.args.cap c.args.rows.items c.requires.1 (omega (arith, c.count-count.ensures.value, c.count-count.ensures.few))

pub returns : goal.returns
returns c = λ level is. rw c.new.ensures (far_table (judged c.args.graph.now level) c.args.cap c.args.rows.items is)
