use Rattle.std.proofs.Common.{ℕ, sym, subst}
use Rattle.tcc_core.specs.Searches.{IsSearchOf}
use Rattle.tcc_steal.proofs.desk.Begun.settle.Goals as goal

pub returns-clause-search : goal.returns-clause-search
returns-clause-search c = λ j priced is.
    subst (λ (s : ℕ). IsSearchOf j s c.settle.new.self) (sym c.settle.ensures.start) (c.settle.ensures.search j c.args.self.now.search.start priced is)
