use Rattle.tcc_steal.specs.private.Floors.{least_cost}
use Rattle.tcc_steal.proofs.branch_and_bound.search_with.Given as goal

abbrev pub ghost-search_by : goal.ghost-search_by
ghost-search_by g a = least_cost a.prices.now
