use Rattle.tcc_graph.specs.Tables.{row_of}
use Rattle.tcc_clocks.proofs.RowLemmas.{entries_like}
use Rattle.tcc_clocks.proofs.rows.put_row.Goals as goal

pub returns-in-Some : goal.returns-in-Some
returns-in-Some c =
    let table = c.args.table.now in
    let other = c.in-Some.other in (
      row_of table other,
      c.share.ensures,
      entries_like c.args.side c.args.graph.now c.args.owners.now c.requires.owners c.args.from c.args.numbers.now table other c.in-Some.ensures.one
          c.in-Some.ensures.all c.requires.inside c.requires.rows,
    )
