use Rattle.std.proofs.Common.{◌≡◌, ℕ, refl}
use Rattle.tcc_graph.specs.Levels.{Judged}
use Rattle.tcc_derive.specs.Prices.{IsPricesOf}
use Rattle.tcc_core.specs.Searches.{IsSearchOf}
use Rattle.tcc_core.proofs.search.Search.settle.Goals.{then-cap-self, else-cap-self}
use Rattle.tcc_core.proofs.search.Search.settle.Goals.{After-join_nearest}
use Rattle.tcc_core.proofs.search.Search.settle.Goals as goal

known : (c : After-join_nearest) (j : Judged) (s : ℕ) → IsPricesOf j c.args.prices.now → IsSearchOf j s c.args.self.now → IsSearchOf j s c.if-cap-self.self
known c j s priced is = elim c.if-cap-self.branch [
  | then-cap-self w ↦ rw w.self-is (w.catch_up.ensures.search j s priced is)
  | else-cap-self w ↦ rw w.self-is is
]

pub returns-clause-search : goal.returns-clause-search
returns-clause-search c = λ j s priced is. c.join_nearest.ensures.search j s priced (known (goal.at.returns-clause-search c).After-join_nearest j s priced is)

pub returns-clause-settled : goal.returns-clause-settled
returns-clause-settled c = λ j s priced is.
    let same : c.if-cap-self.self.row ≡ c.args.self.now.row = elim c.if-cap-self.branch [
      | then-cap-self w ↦ rw w.self-is w.catch_up.ensures.row
      | else-cap-self w ↦ rw w.self-is refl
    ] in
    rw same at (c.join_nearest.ensures.settled j s priced (known (goal.at.returns-clause-settled c).After-join_nearest j s priced is))
