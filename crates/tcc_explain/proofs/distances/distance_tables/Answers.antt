use Rattle.std.proofs.Common.{rules}
use Rattle.tcc_graph.specs.Levels.{judged}
use Rattle.tcc_explain.proofs.distances.distance_tables.Goals as goal

pub searched_rows-requires : goal.searched_rows-requires
searched_rows-requires g c = (search rules, (search rules, (judged c.args.graph.now c.args.near.level, c.requires.prices, c.requires.cost)))

pub far_rows-far-requires : goal.far_rows-far-requires
far_rows-far-requires g c =
    let j = judged c.args.graph.now c.args.near.level in
    (c.args.near.level, c.in_ok-rows.ensures j c.requires.prices c.requires.cost)

pub returns : goal.returns
returns g c =
    let j = judged c.args.graph.now c.args.near.level in
    (c.in_ok-near.ensures, c.far_rows-far.ensures c.args.near.level (c.in_ok-rows.ensures j c.requires.prices c.requires.cost))
