use Rattle.std.proofs.Common.{◌<◌, arith}
use Rattle.tcc_explain.proofs.KnownLemmas.{cost_of_each, far_rows}
use Rattle.tcc_explain.proofs.distances.searched_rows.Goals as goal

pub search_with-requires-clause-seed : goal.search_with-requires-clause-seed
search_with-requires-clause-seed g c = λ κs lives k prices.
    let few : c.args.cost < 18446744073709551615 = omega arith in
    cost_of_each c.args.prices.now c.args.cost few c.requires.0 k c.requires.1 c.requires.2 prices

pub returns : goal.returns
returns g c = λ j prices known.
    far_rows j c.args.workers c.in_ok-found.found (c.in_ok-found.ensures j prices) c.args.cost known
