use Rattle.std.proofs.Common.{arith}
use Rattle.tcc_reads.specs.History.{count}
use Rattle.tcc_graph.specs.Levels.{Judged, judged}
use Rattle.tcc_txn.specs.declared.limits.TheConstants.{MAX_COUNT}
use Rattle.tcc_explain.proofs.TableLemmas.{near_few, near_table}
use Rattle.tcc_explain.proofs.tables.near_rows.Goals as goal

pub new-requires : goal.new-requires
new-requires c =
    let j : Judged = judged c.args.graph.now c.args.near.level in
    rw (c.in_ok-rows.ensures, c.into_rows.ensures) (near_few j c.args.near c.requires (omega (arith, c.count-count.ensures.value, c.count-count.ensures.few)))

pub returns : goal.returns
returns c =
    let j : Judged = judged c.args.graph.now c.args.near.level in
    rw (c.new.ensures, c.in_ok-rows.ensures, c.into_rows.ensures) (near_table j c.args.near c.requires c.args.cap)
