use Rattle.std.proofs.Common.{subst}
use Rattle.tcc_derive.specs.Prices.{IsPricesOf}
use Rattle.tcc_graph.specs.Levels.{judged}
use Rattle.tcc_tests_search.proofs.tests.workers.seeded.Goals as goal

pub seed-seed-requires : goal.seed-seed-requires
seed-seed-requires g c = (
  _,
  c.in_ok-near.ensures,
  subst (λ level. IsPricesOf (judged c.args.graph.now level) c.in_ok-prices.prices) c.in_ok-near.ensures.level c.in_ok-prices.ensures.prices,
)

pub returns-clause-prices : goal.returns-clause-prices
returns-clause-prices g c = (_, c.in_ok-prices.ensures.prices)
